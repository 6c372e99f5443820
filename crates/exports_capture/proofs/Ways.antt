-- A law for each way out of this crate's functions: what an answer of the core is as it is given.
use Prim.Native.Nat.{ℕ}
use mathlib.Core.Path.{◌≡◌, refl}
use mathlib.Core.List.{List, [], ◌∷◌}
use borrow.Author.Tests.{eq-eqb, ne_eqb}
use Rattle.exports_words.specs.Given.{given, left, words}
use Rattle.capture_header.specs.declared.Order.{Order}
use Rattle.capture_header.specs.declared.Order.TheVariants as Orders
use Rattle.std.specs.Prelude.{Option, None, Some, Result, Ok, Err}
use Rattle.refusal.specs.Numbers.{number}
use Rattle.refusal.specs.declared.Refusal.{Refusal}
use Rattle.capture_header.specs.FileHeader.{FileHeader}
use Rattle.capture_header.specs.declared.RecordHeader.{RecordHeader}
use Rattle.capture_header.specs.declared.HeaderCause.{HeaderCause}
use Rattle.capture_header.specs.declared.HeaderCause.TheVariants as Causes
use Rattle.capture_header.specs.Headers.{file_header_told, record_header, record_header_told, order_value, file_header_answer, record_header_answer, header_cause_answer}
use Rattle.capture_frame.specs.declared.Frame.{Frame}
use Rattle.capture_frame.specs.declared.Frame.TheVariants as Frames
use Rattle.capture_frame.specs.Frame.{frame_answer}
use Rattle.exports_capture.specs.Orders.{order_of}

-- ---- a byte order

pub order_big : (n : ℕ) → n ≡ 1 → Orders.Big ≡ order_of n
order_big n one = rw (eq-eqb n 1 one)

pub order_little : (n : ℕ) → (n ≡ 1 → ⊥) → Orders.Little ≡ order_of n
order_little n other = rw (ne_eqb n 1 other)

-- ---- a file's header

module _ (header : Result Order Refusal) (said : FileHeader) (same : file_header_told header ≡ said) (out : List ℕ) where
  pub file_read : (order : Order) → header ≡ Ok order → (value : ℕ) → value ≡ order_value order →
      given 1 (file_header_answer said) out ≡ (0, value ∷ [])
  unfolding given left words file_header_answer
  file_read order form value is = rw (← same, form, is)

  pub file_refused : (refusal : Refusal) → header ≡ Err refusal → (n : ℕ) → n ≡ number refusal → given 1 (file_header_answer said) out ≡ (n, out)
  unfolding given left file_header_answer
  file_refused refusal form n is = rw (← same, form, is)

-- ---- what a refused file is

module _ (cause : Option HeaderCause) (ws : List ℕ) where
  pub cause_form : (some form : HeaderCause) → cause ≡ Some some → some ≡ form → ws ≡ words 3 (header_cause_answer (Some form)).values →
      ws ≡ words 3 (header_cause_answer cause).values
  cause_form some form is same are = rw (is, same, are)

  pub cause_none : cause ≡ None → ws ≡ words 3 (header_cause_answer None).values → ws ≡ words 3 (header_cause_answer cause).values
  cause_none is are = rw (is, are)

-- every form has values
cause_done : (cause : Option HeaderCause) (out : List ℕ) → given 3 (header_cause_answer cause) out ≡ (0, words 3 (header_cause_answer cause).values)
unfolding given left header_cause_answer
cause_done None out = refl
cause_done (Some Causes.Short) out = refl
cause_done (Some Causes.Pcapng) out = refl
cause_done (Some Causes.Nanoseconds) out = refl
cause_done (Some (Causes.Version major minor)) out = refl
cause_done (Some Causes.CheckSequences) out = refl
cause_done (Some (Causes.LinkType number)) out = refl
cause_done (Some Causes.NoCapture) out = refl

pub cause_given : (cause said : Option HeaderCause) → cause ≡ said → (ws : List ℕ) → ws ≡ words 3 (header_cause_answer cause).values → (out : List ℕ) →
    given 3 (header_cause_answer said) out ≡ (0, ws)
cause_given cause said same ws are out = rw (are, same) (cause_done said out)

-- ---- a record's header

module _ (order stated : Order) (named : order ≡ stated) (s : List ℕ) (answer : Result (Option RecordHeader) Refusal)
    (is : record_header_told answer ≡ record_header order s) (out : List ℕ) where
  module _ (read : Option RecordHeader) (passed : answer ≡ Ok read) where
    pub record_read : (h : RecordHeader) → read ≡ Some h →
        given 5 (record_header_answer (record_header stated s)) out ≡ (0, 1 ∷ h.seconds ∷ h.microseconds ∷ h.captured ∷ h.original ∷ [])
    unfolding given left words record_header_answer
    record_read h form = rw (← named, ← is, passed, form)

    pub record_cut : read ≡ None → given 5 (record_header_answer (record_header stated s)) out ≡ (0, 2 ∷ 0 ∷ 0 ∷ 0 ∷ 0 ∷ [])
    unfolding given left words record_header_answer
    record_cut form = rw (← named, ← is, passed, form)

  pub record_refused : (refusal : Refusal) → answer ≡ Err refusal → (n : ℕ) → n ≡ number refusal →
      given 5 (record_header_answer (record_header stated s)) out ≡ (n, out)
  unfolding given left record_header_answer
  record_refused refusal form n its = rw (← named, ← is, form, its)

-- ---- what a record carries

pub frame_form : (frame form : Frame) → frame ≡ form → (ws : List ℕ) → ws ≡ words 5 (frame_answer form).values → ws ≡ words 5 (frame_answer frame).values
frame_form frame form is ws are = rw (is, are)

-- every form has values
frame-done : (frame : Frame) (out : List ℕ) → given 5 (frame_answer frame) out ≡ (0, words 5 (frame_answer frame).values)
unfolding given left frame_answer
frame-done Frames.CutShort out = refl
frame-done Frames.NotIpv4 out = refl
frame-done (Frames.Fragment addresses) out = refl
frame-done (Frames.OtherProtocol addresses protocol) out = refl
frame-done (Frames.OtherPorts addresses ports) out = refl
frame-done (Frames.Message addresses part) out = refl
frame-done (Frames.Datagram addresses part) out = refl
frame-done (Frames.Ah addresses packet) out = refl
frame-done (Frames.Esp addresses packet) out = refl

pub frame-given : (frame said : Frame) → frame ≡ said → (ws : List ℕ) → ws ≡ words 5 (frame_answer frame).values → (out : List ℕ) →
    given 5 (frame_answer said) out ≡ (0, ws)
frame-given frame said same ws are out = rw (are, same) (frame-done said out)
