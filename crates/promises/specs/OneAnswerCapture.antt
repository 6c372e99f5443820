-- No second answer, of the family capture (OneAnswer.antt says what that is).
use Rattle.std.proofs.Common.{sym, ◌∙◌}
use denote.RattleType.{RattleType}
use denote.Param.Laws.{Laws, IsCopy}
use mir.Syntax.{Dict}
use Rattle.std.specs.declared.clone.Clone.{Ghosts as CloneGhosts}
use Rattle.refusal.specs.declared.Numbered.{Ghosts}
use Rattle.promises.specs.OneAnswer.{OneAnswer, result, part, result_and_buffer, result_and_second}
use Rattle.promises.specs.OneAnswerBench.{said_once}
use Rattle.capture_header.proofs.Laws.{file_header_told-injective, record_header_told-injective}
use Rattle.promises.specs.OneAnswerSequence.{told_and_table}
use Rattle.capture_record.proofs.Told.{listed_told-injective}
use Rattle.capture_header.proofs.file_header.Kinds as file-header-kinds
use Rattle.capture_header.proofs.file_header.Reads as file-header-reads
use Rattle.capture_header.proofs.record_header.Kinds as record-header-kinds
use Rattle.capture_header.proofs.record_header.Reads as record-header-reads
use Rattle.capture_header.proofs.header_cause.Kinds as header-cause-kinds
use Rattle.capture_header.proofs.header_cause.Reads as header-cause-reads
use Rattle.capture_buffer.proofs.Held.held_in.Kinds as held-in-kinds
use Rattle.capture_buffer.proofs.Held.held_in.Reads as held-in-reads
use Rattle.capture_buffer.proofs.Held.take.Kinds as take-kinds
use Rattle.capture_buffer.proofs.Held.take.Reads as take-reads
use Rattle.capture_buffer.proofs.Held.grow.Kinds as grow-kinds
use Rattle.capture_buffer.proofs.Held.grow.Reads as grow-reads
use Rattle.capture_buffer.proofs.Held.settle.Kinds as settle-kinds
use Rattle.capture_buffer.proofs.Held.settle.Reads as settle-reads
use Rattle.capture_frame.proofs.carried.Kinds as carried-kinds
use Rattle.capture_frame.proofs.carried.Reads as carried-reads
use Rattle.capture_record.proofs.list_record.Kinds as list-record-kinds
use Rattle.capture_record.proofs.list_record.Reads as list-record-reads
use Rattle.capture_record.proofs.handed_in.Kinds as handed-in-kinds
use Rattle.capture_record.proofs.handed_in.Reads as handed-in-reads
use Rattle.capture_words.proofs.place.Kinds as place-kinds
use Rattle.capture_words.proofs.place.Reads as place-reads
use Rattle.capture_words.proofs.stamp.Kinds as stamp-kinds
use Rattle.capture_words.proofs.stamp.Reads as stamp-reads
use Rattle.capture_words.proofs.what.Kinds as what-kinds
use Rattle.capture_words.proofs.what.Reads as what-reads
use Rattle.capture_words.proofs.choice.Kinds as choice-kinds
use Rattle.capture_words.proofs.choice.Reads as choice-reads

pub capture_header-file_header : OneAnswer 1 file-header-kinds.ps file-header-kinds.r result file-header-reads.Post
capture_header-file_header κs arguments x y s t p q = file_header_told-injective _ _ (p ∙ sym q)

pub capture_header-record_header : OneAnswer 1 record-header-kinds.ps record-header-kinds.r result record-header-reads.Post
capture_header-record_header κs arguments x y s t p q = record_header_told-injective _ _ (p ∙ sym q)

pub capture_header-header_cause : OneAnswer 1 header-cause-kinds.ps header-cause-kinds.r result header-cause-reads.Post
capture_header-header_cause κs arguments x y s t p q = p ∙ sym q

pub capture_buffer-held_in : OneAnswer 1 held-in-kinds.ps held-in-kinds.r part held-in-reads.Post
capture_buffer-held_in κs arguments x y s t p q = p ∙ sym q

pub capture_buffer-take : OneAnswer 0 take-kinds.ps take-kinds.r result take-reads.Post
capture_buffer-take κs arguments x y s t p q = p ∙ sym q

pub capture_buffer-grow : OneAnswer 1 grow-kinds.ps grow-kinds.r result grow-reads.Post
capture_buffer-grow κs arguments x y s t p q = p ∙ sym q

pub capture_buffer-settle : OneAnswer 1 settle-kinds.ps settle-kinds.r result_and_second settle-reads.Post
capture_buffer-settle κs arguments x y s t p q = sym p ∙ q

pub capture_frame-carried : OneAnswer 1 carried-kinds.ps carried-kinds.r result carried-reads.Post
capture_frame-carried κs arguments x y s t p q = p ∙ sym q

pub capture_record-list_record : OneAnswer 2 list-record-kinds.ps list-record-kinds.r result_and_buffer list-record-reads.Post
capture_record-list_record κs arguments x y s t p q = told_and_table listed_told-injective (sym p ∙ q)

pub capture_record-handed_in : OneAnswer 1 handed-in-kinds.ps handed-in-kinds.r part handed-in-reads.Post
capture_record-handed_in κs arguments x y s t p q = p ∙ sym q

pub capture_words-place : OneAnswer 1 place-kinds.ps place-kinds.r result_and_buffer place-reads.Post
capture_words-place κs arguments x y s t p q = said_once _ _ _ _ _ _ p q

pub capture_words-stamp : OneAnswer 1 stamp-kinds.ps stamp-kinds.r result_and_buffer stamp-reads.Post
capture_words-stamp κs arguments x y s t p q = said_once _ _ _ _ _ _ p q

-- of a function over a trait: whatever its refusals are
module _ (R : RattleType) (laws : Laws R) (copy : IsCopy R) (ghosts : Ghosts R.Denot) (dict : Dict) (clone : CloneGhosts R.Denot) (clone-dict : Dict) where
  pub capture_words-what : OneAnswer 3 (what-kinds.ps R laws copy) (what-kinds.r R laws copy) result_and_buffer (what-reads.Post R laws copy ghosts dict clone clone-dict)
  capture_words-what κs arguments x y s t p q = said_once _ _ _ _ _ _ p q

  pub capture_words-choice : OneAnswer 2 (choice-kinds.ps R laws copy) (choice-kinds.r R laws copy) result_and_buffer (choice-reads.Post R laws copy ghosts dict clone clone-dict)
  capture_words-choice κs arguments x y s t p q = said_once _ _ _ _ _ _ p q
