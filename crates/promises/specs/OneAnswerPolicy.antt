-- No second answer, of the family policy (OneAnswer.antt says what that is).
use Rattle.std.proofs.Common.{sym, ◌∙◌}
use Rattle.policy_book.proofs.Told.{book_told-injective}
use Rattle.policy_choice.proofs.Told.{choice_told-injective}
use Rattle.policy_reply.proofs.Told.{outcome_told-beside}
use Rattle.promises.specs.OneAnswer.{OneAnswer, result, part, result_and_buffer, result_and_fourth}
use Rattle.policy_lines.proofs.LineNumber.place.Kinds as place-kinds
use Rattle.policy_lines.proofs.LineNumber.place.Reads as place-reads
use Rattle.policy_lines.proofs.quick_count.Kinds as quick-count-kinds
use Rattle.policy_lines.proofs.quick_count.Reads as quick-count-reads
use Rattle.policy_lines.proofs.book_size.Kinds as book-size-kinds
use Rattle.policy_lines.proofs.book_size.Reads as book-size-reads
use Rattle.policy_lines.proofs.main_seconds.Kinds as main-seconds-kinds
use Rattle.policy_lines.proofs.main_seconds.Reads as main-seconds-reads
use Rattle.policy_lines.proofs.quick_protocols.Kinds as quick-protocols-kinds
use Rattle.policy_lines.proofs.quick_protocols.Reads as quick-protocols-reads
use Rattle.policy_lines.proofs.quick_mode.Kinds as quick-mode-kinds
use Rattle.policy_lines.proofs.quick_mode.Reads as quick-mode-reads
use Rattle.policy_lines.proofs.quick_seconds.Kinds as quick-seconds-kinds
use Rattle.policy_lines.proofs.quick_seconds.Reads as quick-seconds-reads
use Rattle.policy_book.proofs.book_in_front.Kinds as book-in-front-kinds
use Rattle.policy_book.proofs.book_in_front.Reads as book-in-front-reads
use Rattle.policy_book.proofs.read_book.Kinds as read-book-kinds
use Rattle.policy_book.proofs.read_book.Reads as read-book-reads
use Rattle.policy_suits.proofs.quick_id.Kinds as quick-id-kinds
use Rattle.policy_suits.proofs.quick_id.Reads as quick-id-reads
use Rattle.policy_suits.proofs.value_is.Kinds as value-is-kinds
use Rattle.policy_suits.proofs.value_is.Reads as value-is-reads
use Rattle.policy_suits.proofs.find_duration.Kinds as find-duration-kinds
use Rattle.policy_suits.proofs.find_duration.Reads as find-duration-reads
use Rattle.policy_suits.proofs.seconds_within.Kinds as seconds-within-kinds
use Rattle.policy_suits.proofs.seconds_within.Reads as seconds-within-reads
use Rattle.policy_suits.proofs.kilobytes_some.Kinds as kilobytes-some-kinds
use Rattle.policy_suits.proofs.kilobytes_some.Reads as kilobytes-some-reads
use Rattle.policy_suits.proofs.nothing_surplus.Kinds as nothing-surplus-kinds
use Rattle.policy_suits.proofs.nothing_surplus.Reads as nothing-surplus-reads
use Rattle.policy_suits.proofs.protocols_suit.Kinds as protocols-suit-kinds
use Rattle.policy_suits.proofs.protocols_suit.Reads as protocols-suit-reads
use Rattle.policy_suits.proofs.lowest.Kinds as lowest-kinds
use Rattle.policy_suits.proofs.lowest.Reads as lowest-reads
use Rattle.policy_suits.proofs.set_suits.Kinds as set-suits-kinds
use Rattle.policy_suits.proofs.set_suits.Reads as set-suits-reads
use Rattle.policy_cause.proofs.transform_cause.Kinds as transform-cause-kinds
use Rattle.policy_cause.proofs.transform_cause.Reads as transform-cause-reads
use Rattle.policy_cause.proofs.pair_cause.Kinds as pair-cause-kinds
use Rattle.policy_cause.proofs.pair_cause.Reads as pair-cause-reads
use Rattle.policy_choice.proofs.choose.choose_from.Kinds as choose-from-kinds
use Rattle.policy_choice.proofs.choose.choose_from.Reads as choose-from-reads
use Rattle.policy_choice.proofs.choose.body_at.Kinds as body-at-kinds
use Rattle.policy_choice.proofs.choose.body_at.Reads as body-at-reads
use Rattle.policy_choice.proofs.choose.sa_body.Kinds as sa-body-kinds
use Rattle.policy_choice.proofs.choose.sa_body.Reads as sa-body-reads
use Rattle.policy_choice.proofs.choose.line_count.Kinds as line-count-kinds
use Rattle.policy_choice.proofs.choose.line_count.Reads as line-count-reads
use Rattle.policy_choice.proofs.choose.sa_of.Kinds as sa-of-kinds
use Rattle.policy_choice.proofs.choose.sa_of.Reads as sa-of-reads
use Rattle.policy_choice.proofs.choose.choose.Kinds as choose-kinds
use Rattle.policy_choice.proofs.choose.choose.Reads as choose-reads
use Rattle.policy_why.proofs.message_offer.Kinds as message-offer-kinds
use Rattle.policy_why.proofs.message_offer.Reads as message-offer-reads
use Rattle.policy_why.proofs.offered.Kinds as offered-kinds
use Rattle.policy_why.proofs.offered.Reads as offered-reads
use Rattle.policy_why.proofs.is_place.Kinds as is-place-kinds
use Rattle.policy_why.proofs.is_place.Reads as is-place-reads
use Rattle.policy_why.proofs.Told.{offer_told-injective, why_told-injective}
use Rattle.policy_lawful.proofs.Told.{difference_told-injective, lawful_told-injective}
use Rattle.policy_why.proofs.cause_at.Kinds as cause-at-kinds
use Rattle.policy_why.proofs.cause_at.Reads as cause-at-reads
use Rattle.policy_lawful.proofs.first_difference.Kinds as first-difference-kinds
use Rattle.policy_lawful.proofs.first_difference.Reads as first-difference-reads
use Rattle.policy_lawful.proofs.reply_lawful.Kinds as reply-lawful-kinds
use Rattle.policy_lawful.proofs.reply_lawful.Reads as reply-lawful-reads
use Rattle.policy_reply.proofs.put_proposal.Kinds as put-proposal-kinds
use Rattle.policy_reply.proofs.put_proposal.Reads as put-proposal-reads
use Rattle.policy_reply.proofs.put_reply.Kinds as put-reply-kinds
use Rattle.policy_reply.proofs.put_reply.Reads as put-reply-reads
use Rattle.policy_reply.proofs.reply.Kinds as reply-kinds
use Rattle.policy_reply.proofs.reply.Reads as reply_reads

pub policy_lines-place : OneAnswer 0 place-kinds.ps place-kinds.r result place-reads.Post
policy_lines-place κs arguments x y s t p q = p ∙ sym q

pub policy_lines-quick_count : OneAnswer 1 quick-count-kinds.ps quick-count-kinds.r result quick-count-reads.Post
policy_lines-quick_count κs arguments x y s t p q = p ∙ sym q

pub policy_lines-book_size : OneAnswer 1 book-size-kinds.ps book-size-kinds.r result book-size-reads.Post
policy_lines-book_size κs arguments x y s t p q = p ∙ sym q

pub policy_lines-main_seconds : OneAnswer 1 main-seconds-kinds.ps main-seconds-kinds.r result main-seconds-reads.Post
policy_lines-main_seconds κs arguments x y s t p q = p ∙ sym q

pub policy_lines-quick_protocols : OneAnswer 1 quick-protocols-kinds.ps quick-protocols-kinds.r result quick-protocols-reads.Post
policy_lines-quick_protocols κs arguments x y s t p q = p ∙ sym q

pub policy_lines-quick_mode : OneAnswer 1 quick-mode-kinds.ps quick-mode-kinds.r result quick-mode-reads.Post
policy_lines-quick_mode κs arguments x y s t p q = p ∙ sym q

pub policy_lines-quick_seconds : OneAnswer 1 quick-seconds-kinds.ps quick-seconds-kinds.r result quick-seconds-reads.Post
policy_lines-quick_seconds κs arguments x y s t p q = p ∙ sym q

pub policy_book-book_in_front : OneAnswer 1 book-in-front-kinds.ps book-in-front-kinds.r result book-in-front-reads.Post
policy_book-book_in_front κs arguments x y s t p q = p ∙ sym q

pub policy_book-read_book : OneAnswer 1 read-book-kinds.ps read-book-kinds.r result read-book-reads.Post
policy_book-read_book κs arguments x y s t p q = book_told-injective _ _ (p ∙ sym q)

pub policy_suits-quick_id : OneAnswer 0 quick-id-kinds.ps quick-id-kinds.r result quick-id-reads.Post
policy_suits-quick_id κs arguments x y s t p q = p ∙ sym q

pub policy_suits-value_is : OneAnswer 1 value-is-kinds.ps value-is-kinds.r result value-is-reads.Post
policy_suits-value_is κs arguments x y s t p q = p ∙ sym q

pub policy_suits-find_duration : OneAnswer 1 find-duration-kinds.ps find-duration-kinds.r part find-duration-reads.Post
policy_suits-find_duration κs arguments x y s t p q = p ∙ sym q

pub policy_suits-seconds_within : OneAnswer 1 seconds-within-kinds.ps seconds-within-kinds.r result seconds-within-reads.Post
policy_suits-seconds_within κs arguments x y s t p q = p ∙ sym q

pub policy_suits-kilobytes_some : OneAnswer 1 kilobytes-some-kinds.ps kilobytes-some-kinds.r result kilobytes-some-reads.Post
policy_suits-kilobytes_some κs arguments x y s t p q = p ∙ sym q

pub policy_suits-nothing_surplus : OneAnswer 1 nothing-surplus-kinds.ps nothing-surplus-kinds.r result nothing-surplus-reads.Post
policy_suits-nothing_surplus κs arguments x y s t p q = p ∙ sym q

pub policy_suits-protocols_suit : OneAnswer 2 protocols-suit-kinds.ps protocols-suit-kinds.r result protocols-suit-reads.Post
policy_suits-protocols_suit κs arguments x y s t p q = p ∙ sym q

pub policy_suits-lowest : OneAnswer 2 lowest-kinds.ps lowest-kinds.r result lowest-reads.Post
policy_suits-lowest κs arguments x y s t p q = p ∙ sym q

pub policy_suits-set_suits : OneAnswer 2 set-suits-kinds.ps set-suits-kinds.r result set-suits-reads.Post
policy_suits-set_suits κs arguments x y s t p q = p ∙ sym q

pub policy_cause-transform_cause : OneAnswer 2 transform-cause-kinds.ps transform-cause-kinds.r result transform-cause-reads.Post
policy_cause-transform_cause κs arguments x y s t p q = p ∙ sym q

pub policy_cause-pair_cause : OneAnswer 2 pair-cause-kinds.ps pair-cause-kinds.r result pair-cause-reads.Post
policy_cause-pair_cause κs arguments x y s t p q = p ∙ sym q

pub policy_choice-choose_from : OneAnswer 2 choose-from-kinds.ps choose-from-kinds.r result choose-from-reads.Post
policy_choice-choose_from κs arguments x y s t p q = choice_told-injective _ _ (p ∙ sym q)

pub policy_choice-body_at : OneAnswer 1 body-at-kinds.ps body-at-kinds.r part body-at-reads.Post
policy_choice-body_at κs arguments x y s t p q = p ∙ sym q

pub policy_choice-sa_body : OneAnswer 1 sa-body-kinds.ps sa-body-kinds.r part sa-body-reads.Post
policy_choice-sa_body κs arguments x y s t p q = p ∙ sym q

pub policy_choice-line_count : OneAnswer 1 line-count-kinds.ps line-count-kinds.r result line-count-reads.Post
policy_choice-line_count κs arguments x y s t p q = p ∙ sym q

pub policy_choice-sa_of : OneAnswer 1 sa-of-kinds.ps sa-of-kinds.r part sa-of-reads.Post
policy_choice-sa_of κs arguments x y s t p q = p ∙ sym q

pub policy_choice-choose : OneAnswer 2 choose-kinds.ps choose-kinds.r result choose-reads.Post
policy_choice-choose κs arguments x y s t p q = choice_told-injective _ _ (p ∙ sym q)

pub policy_why-message_offer : OneAnswer 1 message-offer-kinds.ps message-offer-kinds.r result message-offer-reads.Post
policy_why-message_offer κs arguments x y s t p q = offer_told-injective _ _ (p ∙ sym q)

pub policy_why-offered : OneAnswer 2 offered-kinds.ps offered-kinds.r result offered-reads.Post
policy_why-offered κs arguments x y s t p q = offer_told-injective _ _ (p ∙ sym q)

pub policy_why-is_place : OneAnswer 1 is-place-kinds.ps is-place-kinds.r result is-place-reads.Post
policy_why-is_place κs arguments x y s t p q = p ∙ sym q

pub policy_why-cause_at : OneAnswer 2 cause-at-kinds.ps cause-at-kinds.r result cause-at-reads.Post
policy_why-cause_at κs arguments x y s t p q = why_told-injective _ _ (p ∙ sym q)

pub policy_lawful-first_difference : OneAnswer 3 first-difference-kinds.ps first-difference-kinds.r result first-difference-reads.Post
policy_lawful-first_difference κs arguments x y s t p q = difference_told-injective _ _ (p ∙ sym q)

pub policy_lawful-reply_lawful : OneAnswer 3 reply-lawful-kinds.ps reply-lawful-kinds.r result reply-lawful-reads.Post
policy_lawful-reply_lawful κs arguments x y s t p q = lawful_told-injective _ _ (p ∙ sym q)

pub policy_reply-put_proposal : OneAnswer 2 put-proposal-kinds.ps put-proposal-kinds.r result_and_buffer put-proposal-reads.Post
policy_reply-put_proposal κs arguments x y s t p q = sym p ∙ q

pub policy_reply-put_reply : OneAnswer 2 put-reply-kinds.ps put-reply-kinds.r result_and_buffer put-reply-reads.Post
policy_reply-put_reply κs arguments x y s t p q = sym p ∙ q

pub policy_reply-reply : OneAnswer 3 reply-kinds.ps reply-kinds.r result_and_fourth reply_reads.Post
policy_reply-reply κs arguments x y s t p q = outcome_told-beside _ _ _ _ (sym p ∙ q)
