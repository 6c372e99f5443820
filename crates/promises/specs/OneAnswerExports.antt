-- No second answer, of what other languages call (OneAnswer.antt says what that is). Beside the number are seen the words of `out`, and a
-- lent buffer or table behind them; of a call on an end, the end and the buffers too.
use Rattle.std.specs.Prelude.{ℕ, List}
use Rattle.std.proofs.Common.{sym, ap, ◌∙◌}
use Rattle.promises.specs.OneAnswer.{OneAnswer, result, buffer, result_and_buffer}
use Rattle.exports_quick.specs.Called.{Called}
use Rattle.exports_reading.proofs.tallowbrim_datagram.Kinds as tallowbrim-datagram-kinds
use Rattle.exports_reading.proofs.tallowbrim_datagram.Reads as tallowbrim-datagram-reads
use Rattle.exports_reading.proofs.tallowbrim_message.Kinds as tallowbrim-message-kinds
use Rattle.exports_reading.proofs.tallowbrim_message.Reads as tallowbrim-message-reads
use Rattle.exports_reading.proofs.tallowbrim_payload.Kinds as tallowbrim-payload-kinds
use Rattle.exports_reading.proofs.tallowbrim_payload.Reads as tallowbrim-payload-reads
use Rattle.exports_reading.proofs.tallowbrim_identity.Kinds as tallowbrim-identity-kinds
use Rattle.exports_reading.proofs.tallowbrim_identity.Reads as tallowbrim-identity-reads
use Rattle.exports_reading.proofs.tallowbrim_name.Kinds as tallowbrim-name-kinds
use Rattle.exports_reading.proofs.tallowbrim_name.Reads as tallowbrim-name-reads
use Rattle.exports_reading.proofs.tallowbrim_element.Kinds as tallowbrim-element-kinds
use Rattle.exports_reading.proofs.tallowbrim_element.Reads as tallowbrim-element-reads
use Rattle.exports_policy.proofs.tallowbrim_book.Kinds as tallowbrim-book-kinds
use Rattle.exports_policy.proofs.tallowbrim_book.Reads as tallowbrim-book-reads
use Rattle.exports_policy.proofs.tallowbrim_choose.Kinds as tallowbrim-choose-kinds
use Rattle.exports_policy.proofs.tallowbrim_choose.Reads as tallowbrim-choose-reads
use Rattle.exports_policy.proofs.tallowbrim_reply.Kinds as tallowbrim-reply-kinds
use Rattle.exports_policy.proofs.tallowbrim_reply.Reads as tallowbrim-reply-reads
use Rattle.exports_why.proofs.tallowbrim_cause.Kinds as tallowbrim-cause-kinds
use Rattle.exports_why.proofs.tallowbrim_cause.Reads as tallowbrim-cause-reads
use Rattle.exports_why.proofs.tallowbrim_place.Kinds as tallowbrim-place-kinds
use Rattle.exports_why.proofs.tallowbrim_place.Reads as tallowbrim-place-reads
use Rattle.exports_lawful.proofs.tallowbrim_lawful.Kinds as tallowbrim-lawful-kinds
use Rattle.exports_lawful.proofs.tallowbrim_lawful.Reads as tallowbrim-lawful-reads
use Rattle.exports_lawful.proofs.tallowbrim_difference.Kinds as tallowbrim-difference-kinds
use Rattle.exports_lawful.proofs.tallowbrim_difference.Reads as tallowbrim-difference-reads
use Rattle.exports_end.proofs.state_number.Kinds as state-number-kinds
use Rattle.exports_end.proofs.state_number.Reads as state-number-reads
use Rattle.exports_end.proofs.transforms_values.Kinds as transforms-values-kinds
use Rattle.exports_end.proofs.transforms_values.Reads as transforms-values-reads
use Rattle.exports_end.proofs.spis_values.Kinds as spis-values-kinds
use Rattle.exports_end.proofs.spis_values.Reads as spis-values-reads
use Rattle.exports_end.proofs.end_of.Kinds as end-of-kinds
use Rattle.exports_end.proofs.end_of.Reads as end-of-reads
use Rattle.exports_end.proofs.progress_of.Kinds as progress-of-kinds
use Rattle.exports_end.proofs.progress_of.Reads as progress-of-reads
use Rattle.exports_end.proofs.put_progress.Kinds as put-progress-kinds
use Rattle.exports_end.proofs.put_progress.Reads as put-progress-reads
use Rattle.exports_end.proofs.put_end.Kinds as put-end-kinds
use Rattle.exports_end.proofs.put_end.Reads as put-end-reads
use Rattle.exports_quick.proofs.tallowbrim_fresh.Kinds as tallowbrim-fresh-kinds
use Rattle.exports_quick.proofs.tallowbrim_fresh.Reads as tallowbrim-fresh-reads
use Rattle.exports_quick.proofs.tallowbrim_begin.Kinds as tallowbrim-begin-kinds
use Rattle.exports_quick.proofs.tallowbrim_begin.Reads as tallowbrim-begin-reads
use Rattle.exports_quick.proofs.tallowbrim_deliver.Kinds as tallowbrim-deliver-kinds
use Rattle.exports_quick.proofs.tallowbrim_deliver.Reads as tallowbrim-deliver-reads
use Rattle.exports_quick.proofs.tallowbrim_tick.Kinds as tallowbrim-tick-kinds
use Rattle.exports_quick.proofs.tallowbrim_tick.Reads as tallowbrim-tick-reads
use Rattle.exports_quick.proofs.tallowbrim_state.Kinds as tallowbrim-state-kinds
use Rattle.exports_quick.proofs.tallowbrim_state.Reads as tallowbrim-state-reads
use Rattle.exports_quick.proofs.tallowbrim_agreed.Kinds as tallowbrim-agreed-kinds
use Rattle.exports_quick.proofs.tallowbrim_agreed.Reads as tallowbrim-agreed-reads
use Rattle.exports_quick.proofs.tallowbrim_nonce.Kinds as tallowbrim-nonce-kinds
use Rattle.exports_quick.proofs.tallowbrim_nonce.Reads as tallowbrim-nonce-reads
use Rattle.exports_sequence.proofs.tallowbrim_step.Kinds as tallowbrim-step-kinds
use Rattle.exports_sequence.proofs.tallowbrim_step.Reads as tallowbrim-step-reads
use Rattle.exports_sequence.proofs.tallowbrim_loss_line.Kinds as tallowbrim-loss-line-kinds
use Rattle.exports_sequence.proofs.tallowbrim_loss_line.Reads as tallowbrim-loss-line-reads
use Rattle.exports_sequence.proofs.tallowbrim_plain_step.Kinds as tallowbrim-plain-step-kinds
use Rattle.exports_sequence.proofs.tallowbrim_plain_step.Reads as tallowbrim-plain-step-reads
use Rattle.exports_sequence.proofs.tallowbrim_plain_loss_line.Kinds as tallowbrim-plain-loss-line-kinds
use Rattle.exports_sequence.proofs.tallowbrim_plain_loss_line.Reads as tallowbrim-plain-loss-line-reads
use Rattle.exports_sequence.proofs.tallowbrim_add.Kinds as tallowbrim-add-kinds
use Rattle.exports_sequence.proofs.tallowbrim_add.Reads as tallowbrim-add-reads
use Rattle.exports_sequence.proofs.tallowbrim_remove.Kinds as tallowbrim-remove-kinds
use Rattle.exports_sequence.proofs.tallowbrim_remove.Reads as tallowbrim-remove-reads
use Rattle.exports_sequence.proofs.tallowbrim_packet.Kinds as tallowbrim-packet-kinds
use Rattle.exports_sequence.proofs.tallowbrim_packet.Reads as tallowbrim-packet-reads
use Rattle.exports_sequence.proofs.tallowbrim_send.Kinds as tallowbrim-send-kinds
use Rattle.exports_sequence.proofs.tallowbrim_send.Reads as tallowbrim-send-reads
use Rattle.exports_sequence.proofs.tallowbrim_loss.Kinds as tallowbrim-loss-kinds
use Rattle.exports_sequence.proofs.tallowbrim_loss.Reads as tallowbrim-loss-reads
use Rattle.exports_capture.proofs.tallowbrim_file_header.Kinds as tallowbrim-file-header-kinds
use Rattle.exports_capture.proofs.tallowbrim_file_header.Reads as tallowbrim-file-header-reads
use Rattle.exports_capture.proofs.tallowbrim_header_cause.Kinds as tallowbrim-header-cause-kinds
use Rattle.exports_capture.proofs.tallowbrim_header_cause.Reads as tallowbrim-header-cause-reads
use Rattle.exports_capture.proofs.tallowbrim_record_header.Kinds as tallowbrim-record-header-kinds
use Rattle.exports_capture.proofs.tallowbrim_record_header.Reads as tallowbrim-record-header-reads
use Rattle.exports_capture.proofs.tallowbrim_carried.Kinds as tallowbrim-carried-kinds
use Rattle.exports_capture.proofs.tallowbrim_carried.Reads as tallowbrim-carried-reads
use Rattle.exports_record.proofs.tallowbrim_record.Kinds as tallowbrim-record-kinds
use Rattle.exports_record.proofs.tallowbrim_record.Reads as tallowbrim-record-reads

pub exports_reading-tallowbrim_datagram :
    OneAnswer 2 tallowbrim-datagram-kinds.ps tallowbrim-datagram-kinds.r {A = ℕ × List ℕ} (λ κs x s. (x, s.1.0.now))
    tallowbrim-datagram-reads.Post
exports_reading-tallowbrim_datagram κs arguments x y s t p q = sym p ∙ q

pub exports_reading-tallowbrim_message :
    OneAnswer 2 tallowbrim-message-kinds.ps tallowbrim-message-kinds.r {A = ℕ × List ℕ} (λ κs x s. (x, s.1.0.now))
    tallowbrim-message-reads.Post
exports_reading-tallowbrim_message κs arguments x y s t p q = sym p ∙ q

pub exports_reading-tallowbrim_payload :
    OneAnswer 2 tallowbrim-payload-kinds.ps tallowbrim-payload-kinds.r {A = ℕ × List ℕ} (λ κs x s. (x, s.1.1.0.now))
    tallowbrim-payload-reads.Post
exports_reading-tallowbrim_payload κs arguments x y s t p q = sym p ∙ q

pub exports_reading-tallowbrim_identity : OneAnswer 1 tallowbrim-identity-kinds.ps tallowbrim-identity-kinds.r result tallowbrim-identity-reads.Post
exports_reading-tallowbrim_identity κs arguments x y s t p q = p ∙ sym q

pub exports_reading-tallowbrim_name : OneAnswer 1 tallowbrim-name-kinds.ps tallowbrim-name-kinds.r result tallowbrim-name-reads.Post
exports_reading-tallowbrim_name κs arguments x y s t p q = p ∙ sym q

pub exports_reading-tallowbrim_element : OneAnswer 1 tallowbrim-element-kinds.ps tallowbrim-element-kinds.r result tallowbrim-element-reads.Post
exports_reading-tallowbrim_element κs arguments x y s t p q = p ∙ sym q

pub exports_policy-tallowbrim_book :
    OneAnswer 2 tallowbrim-book-kinds.ps tallowbrim-book-kinds.r {A = ℕ × List ℕ} (λ κs x s. (x, s.1.0.now))
    tallowbrim-book-reads.Post
exports_policy-tallowbrim_book κs arguments x y s t p q = sym p ∙ q

pub exports_policy-tallowbrim_choose :
    OneAnswer 3 tallowbrim-choose-kinds.ps tallowbrim-choose-kinds.r {A = ℕ × List ℕ} (λ κs x s. (x, s.1.1.0.now))
    tallowbrim-choose-reads.Post
exports_policy-tallowbrim_choose κs arguments x y s t p q = sym p ∙ q

pub exports_policy-tallowbrim_reply :
    OneAnswer 4 tallowbrim-reply-kinds.ps tallowbrim-reply-kinds.r {A = (ℕ × List ℕ) × List ℕ} (λ κs x s. ((x, s.1.1.1.1.1.0.now), s.1.1.1.1.0.now))
    tallowbrim-reply-reads.Post
exports_policy-tallowbrim_reply κs arguments x y s t p q = sym p ∙ q

pub exports_why-tallowbrim_cause :
    OneAnswer 3 tallowbrim-cause-kinds.ps tallowbrim-cause-kinds.r {A = ℕ × List ℕ} (λ κs x s. (x, s.1.1.1.1.1.1.0.now))
    tallowbrim-cause-reads.Post
exports_why-tallowbrim_cause κs arguments x y s t p q = sym p ∙ q

pub exports_why-tallowbrim_place :
    OneAnswer 2 tallowbrim-place-kinds.ps tallowbrim-place-kinds.r {A = ℕ × List ℕ} (λ κs x s. (x, s.1.1.1.1.0.now))
    tallowbrim-place-reads.Post
exports_why-tallowbrim_place κs arguments x y s t p q = sym p ∙ q

pub exports_lawful-tallowbrim_lawful : OneAnswer 3 tallowbrim-lawful-kinds.ps tallowbrim-lawful-kinds.r result tallowbrim-lawful-reads.Post
exports_lawful-tallowbrim_lawful κs arguments x y s t p q = p ∙ sym q

pub exports_lawful-tallowbrim_difference :
    OneAnswer 4 tallowbrim-difference-kinds.ps tallowbrim-difference-kinds.r {A = ℕ × List ℕ} (λ κs x s. (x, s.1.1.1.1.0.now))
    tallowbrim-difference-reads.Post
exports_lawful-tallowbrim_difference κs arguments x y s t p q = sym p ∙ q

pub exports_end-state_number : OneAnswer 0 state-number-kinds.ps state-number-kinds.r result state-number-reads.Post
exports_end-state_number κs arguments x y s t p q = p ∙ sym q

pub exports_end-transforms_values : OneAnswer 0 transforms-values-kinds.ps transforms-values-kinds.r result transforms-values-reads.Post
exports_end-transforms_values κs arguments x y s t p q = p ∙ sym q

pub exports_end-spis_values : OneAnswer 0 spis-values-kinds.ps spis-values-kinds.r result spis-values-reads.Post
exports_end-spis_values κs arguments x y s t p q = p ∙ sym q

pub exports_end-end_of : OneAnswer 1 end-of-kinds.ps end-of-kinds.r result end-of-reads.Post
exports_end-end_of κs arguments x y s t p q = p ∙ sym q

pub exports_end-progress_of : OneAnswer 1 progress-of-kinds.ps progress-of-kinds.r result progress-of-reads.Post
exports_end-progress_of κs arguments x y s t p q = p ∙ sym q

pub exports_end-put_progress : OneAnswer 1 put-progress-kinds.ps put-progress-kinds.r buffer put-progress-reads.Post
exports_end-put_progress κs arguments x y s t p q = p ∙ sym q

pub exports_end-put_end : OneAnswer 1 put-end-kinds.ps put-end-kinds.r buffer put-end-reads.Post
exports_end-put_end κs arguments x y s t p q = p ∙ sym q

pub exports_quick-tallowbrim_fresh : OneAnswer 3 tallowbrim-fresh-kinds.ps tallowbrim-fresh-kinds.r result_and_buffer tallowbrim-fresh-reads.Post
exports_quick-tallowbrim_fresh κs arguments x y s t p q = sym p ∙ q

pub exports_quick-tallowbrim_begin :
    OneAnswer 7 tallowbrim-begin-kinds.ps tallowbrim-begin-kinds.r {A = (ℕ × List ℕ × List ℕ) × List ℕ × List ℕ}
    (λ κs x s. let lent = s.1.1.1.1 in ((x, s.0.now, lent.1.1.1.0.now), lent.0.now, lent.1.1.0.now))
    tallowbrim-begin-reads.Post
exports_quick-tallowbrim_begin κs arguments x y s t p q =
    ap (λ (c : Called). ((c.number, c.end, c.out), c.sent, c.output)) (sym p ∙ q)

pub exports_quick-tallowbrim_deliver :
    OneAnswer 6 tallowbrim-deliver-kinds.ps tallowbrim-deliver-kinds.r {A = Called}
    (λ κs x s.
    let lent = s.1.1.1 in
    record { number = x; end = s.0.now; out = lent.1.1.1.0.now; sent = lent.0.now; got = lent.1.0.now; output = lent.1.1.0.now })
    tallowbrim-deliver-reads.Post
exports_quick-tallowbrim_deliver κs arguments x y s t p q = sym p ∙ q

pub exports_quick-tallowbrim_tick :
    OneAnswer 5 tallowbrim-tick-kinds.ps tallowbrim-tick-kinds.r {A = (ℕ × List ℕ × List ℕ) × List ℕ}
    (λ κs x s. let output = s.1.1.1 in ((x, s.0.now, output.1.0.now), output.0.now))
    tallowbrim-tick-reads.Post
exports_quick-tallowbrim_tick κs arguments x y s t p q = ap (λ (c : Called). ((c.number, c.end, c.out), c.output)) (sym p ∙ q)

pub exports_quick-tallowbrim_state :
    OneAnswer 2 tallowbrim-state-kinds.ps tallowbrim-state-kinds.r {A = ℕ × List ℕ} (λ κs x s. (x, s.1.0.now))
    tallowbrim-state-reads.Post
exports_quick-tallowbrim_state κs arguments x y s t p q = sym p ∙ q

pub exports_quick-tallowbrim_agreed :
    OneAnswer 2 tallowbrim-agreed-kinds.ps tallowbrim-agreed-kinds.r {A = ℕ × List ℕ} (λ κs x s. (x, s.1.0.now))
    tallowbrim-agreed-reads.Post
exports_quick-tallowbrim_agreed κs arguments x y s t p q = sym p ∙ q

pub exports_quick-tallowbrim_nonce :
    OneAnswer 3 tallowbrim-nonce-kinds.ps tallowbrim-nonce-kinds.r {A = ℕ × List ℕ × List ℕ}
    (λ κs x s. let lent = s.1.1.1 in (x, lent.1.0.now, lent.0.now))
    tallowbrim-nonce-reads.Post
exports_quick-tallowbrim_nonce κs arguments x y s t p q = sym p ∙ q

pub exports_sequence-tallowbrim_step :
    OneAnswer 2 tallowbrim-step-kinds.ps tallowbrim-step-kinds.r {A = (ℕ × List ℕ) × List ℕ} (λ κs x s. ((x, s.1.1.1.0.now), s.0.now))
    tallowbrim-step-reads.Post
exports_sequence-tallowbrim_step κs arguments x y s t p q = sym p ∙ q

pub exports_sequence-tallowbrim_loss_line :
    OneAnswer 2 tallowbrim-loss-line-kinds.ps tallowbrim-loss-line-kinds.r {A = ℕ × List ℕ} (λ κs x s. (x, s.1.0.now))
    tallowbrim-loss-line-reads.Post
exports_sequence-tallowbrim_loss_line κs arguments x y s t p q = sym p ∙ q

pub exports_sequence-tallowbrim_plain_step :
    OneAnswer 2 tallowbrim-plain-step-kinds.ps tallowbrim-plain-step-kinds.r {A = (ℕ × List ℕ) × List ℕ}
    (λ κs x s. ((x, s.1.1.1.0.now), s.0.now))
    tallowbrim-plain-step-reads.Post
exports_sequence-tallowbrim_plain_step κs arguments x y s t p q = sym p ∙ q

pub exports_sequence-tallowbrim_plain_loss_line :
    OneAnswer 2 tallowbrim-plain-loss-line-kinds.ps tallowbrim-plain-loss-line-kinds.r {A = ℕ × List ℕ} (λ κs x s. (x, s.1.0.now))
    tallowbrim-plain-loss-line-reads.Post
exports_sequence-tallowbrim_plain_loss_line κs arguments x y s t p q = sym p ∙ q

pub exports_sequence-tallowbrim_add : OneAnswer 1 tallowbrim-add-kinds.ps tallowbrim-add-kinds.r result_and_buffer tallowbrim-add-reads.Post
exports_sequence-tallowbrim_add κs arguments x y s t p q = sym p ∙ q

pub exports_sequence-tallowbrim_remove : OneAnswer 1 tallowbrim-remove-kinds.ps tallowbrim-remove-kinds.r result_and_buffer tallowbrim-remove-reads.Post
exports_sequence-tallowbrim_remove κs arguments x y s t p q = sym p ∙ q

pub exports_sequence-tallowbrim_packet :
    OneAnswer 3 tallowbrim-packet-kinds.ps tallowbrim-packet-kinds.r {A = (ℕ × List ℕ) × List ℕ} (λ κs x s. ((x, s.1.1.1.1.1.0.now), s.0.now))
    tallowbrim-packet-reads.Post
exports_sequence-tallowbrim_packet κs arguments x y s t p q = sym p ∙ q

pub exports_sequence-tallowbrim_send :
    OneAnswer 2 tallowbrim-send-kinds.ps tallowbrim-send-kinds.r {A = (ℕ × List ℕ) × List ℕ} (λ κs x s. ((x, s.1.1.1.1.0.now), s.0.now))
    tallowbrim-send-reads.Post
exports_sequence-tallowbrim_send κs arguments x y s t p q = sym p ∙ q

pub exports_sequence-tallowbrim_loss :
    OneAnswer 2 tallowbrim-loss-kinds.ps tallowbrim-loss-kinds.r {A = ℕ × List ℕ} (λ κs x s. (x, s.1.1.1.1.0.now))
    tallowbrim-loss-reads.Post
exports_sequence-tallowbrim_loss κs arguments x y s t p q = sym p ∙ q

pub exports_capture-tallowbrim_file_header :
    OneAnswer 2 tallowbrim-file-header-kinds.ps tallowbrim-file-header-kinds.r {A = ℕ × List ℕ} (λ κs x s. (x, s.1.0.now))
    tallowbrim-file-header-reads.Post
exports_capture-tallowbrim_file_header κs arguments x y s t p q = sym p ∙ q

pub exports_capture-tallowbrim_header_cause :
    OneAnswer 2 tallowbrim-header-cause-kinds.ps tallowbrim-header-cause-kinds.r {A = ℕ × List ℕ} (λ κs x s. (x, s.1.0.now))
    tallowbrim-header-cause-reads.Post
exports_capture-tallowbrim_header_cause κs arguments x y s t p q = sym p ∙ q

pub exports_capture-tallowbrim_record_header :
    OneAnswer 2 tallowbrim-record-header-kinds.ps tallowbrim-record-header-kinds.r {A = ℕ × List ℕ} (λ κs x s. (x, s.1.1.0.now))
    tallowbrim-record-header-reads.Post
exports_capture-tallowbrim_record_header κs arguments x y s t p q = sym p ∙ q

pub exports_capture-tallowbrim_carried :
    OneAnswer 2 tallowbrim-carried-kinds.ps tallowbrim-carried-kinds.r {A = ℕ × List ℕ} (λ κs x s. (x, s.1.1.0.now))
    tallowbrim-carried-reads.Post
exports_capture-tallowbrim_carried κs arguments x y s t p q = sym p ∙ q

pub exports_record-tallowbrim_record :
    OneAnswer 3 tallowbrim-record-kinds.ps tallowbrim-record-kinds.r {A = (ℕ × List ℕ) × List ℕ} (λ κs x s. ((x, s.1.1.1.0.now), s.0.now))
    tallowbrim-record-reads.Post
exports_record-tallowbrim_record κs arguments x y s t p q = sym p ∙ q
