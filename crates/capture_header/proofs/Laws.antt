-- An answer of the code is told apart by what it says.
use Prim.Native.Nat.{ℕ}
use mathlib.Core.Path.{◌≡◌, refl, ap, ◌∙◌}
use Rattle.std.specs.Prelude.{Option, None, Some, Result, Ok, Err}
use Rattle.wire_read.proofs.Tests.{never}
use Rattle.refusal.specs.Numbers.{number}
use Rattle.refusal.specs.declared.Refusal.{Refusal}
use Rattle.refusal.proofs.Laws.{number-injective}
use Rattle.capture_header.specs.declared.Order.{Order}
use Rattle.capture_header.specs.declared.RecordHeader.{RecordHeader}
use Rattle.capture_header.specs.Headers.{file_header_told, record_header_told}

pub file_header_told-injective : (x y : Result Order Refusal) → file_header_told x ≡ file_header_told y → x ≡ y
file_header_told-injective (Ok order) (Ok other) same = cc
file_header_told-injective (Ok order) (Err refusal) same = never (cc)
file_header_told-injective (Err refusal) (Ok order) same = never (cc)
file_header_told-injective (Err one) (Err other) same =
    let numbers : number one ≡ number other = cc in
    ap Err (number-injective one other numbers)

abbrev header_of : (seconds microseconds captured original : ℕ) → RecordHeader
header_of seconds microseconds captured original = record { seconds = seconds; microseconds = microseconds; captured = captured; original = original }

same_fields : (x y : RecordHeader) → x.seconds ≡ y.seconds → x.microseconds ≡ y.microseconds → x.captured ≡ y.captured → x.original ≡ y.original → x ≡ y
same_fields x y seconds microseconds captured original =
    ap (λ (n : ℕ). header_of n x.microseconds x.captured x.original) seconds
    ∙ ap (λ (n : ℕ). header_of y.seconds n x.captured x.original) microseconds
    ∙ ap (λ (n : ℕ). header_of y.seconds y.microseconds n x.original) captured
    ∙ ap (λ (n : ℕ). header_of y.seconds y.microseconds y.captured n) original

pub record_header_told-injective : (x y : Result (Option RecordHeader) Refusal) → record_header_told x ≡ record_header_told y → x ≡ y
record_header_told-injective (Ok (Some x)) (Ok (Some y)) same = ap (λ (h : RecordHeader). Ok (Some h)) (same_fields x y (cc) (cc) (cc) (cc))
record_header_told-injective (Ok (Some x)) (Ok None) same = never (cc)
record_header_told-injective (Ok None) (Ok (Some y)) same = never (cc)
record_header_told-injective (Ok None) (Ok None) same = refl
record_header_told-injective (Ok (Some x)) (Err refusal) same = never (cc)
record_header_told-injective (Ok None) (Err refusal) same = never (cc)
record_header_told-injective (Err refusal) (Ok (Some y)) same = never (cc)
record_header_told-injective (Err refusal) (Ok None) same = never (cc)
record_header_told-injective (Err one) (Err other) same =
    let numbers : number one ≡ number other = cc in
    ap Err (number-injective one other numbers)
