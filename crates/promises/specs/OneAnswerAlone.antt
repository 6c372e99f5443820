-- No second answer, of der, port4500, identity and refusal (OneAnswer.antt says what that is).
use Rattle.std.proofs.Common.{sym, ◌∙◌}
use denote.RattleType.{RattleType}
use denote.Param.Laws.{Laws, IsCopy}
use mir.Syntax.{Dict}
use Rattle.std.specs.declared.clone.Clone.{Ghosts as CloneGhosts}
use Rattle.refusal.specs.declared.Numbered.{Ghosts}
use Rattle.refusal.proofs.Laws.{coded-injective}
use Rattle.promises.specs.OneAnswer.{OneAnswer, result, part}
use Rattle.der.proofs.is_element.Kinds as is-element-kinds
use Rattle.der.proofs.is_element.Reads as is-element-reads
use Rattle.der.proofs.is_name.Kinds as is-name-kinds
use Rattle.der.proofs.is_name.Reads as is-name-reads
use Rattle.port4500.proofs.Laws.{datagram_told-injective}
use Rattle.port4500.proofs.read.Kinds as read-kinds
use Rattle.port4500.proofs.read.Reads as read-reads
use Rattle.port4500.proofs.handed_on.Kinds as handed_on-kinds
use Rattle.port4500.proofs.handed_on.Reads as handed_on-reads
use Rattle.identity.proofs.identity_code.Kinds as identity-code-kinds
use Rattle.identity.proofs.identity_code.Reads as identity-code-reads
use Rattle.refusal.proofs.Refusal.number.Kinds as number-kinds
use Rattle.refusal.proofs.Refusal.number.Reads as number-reads
use Rattle.refusal.proofs.Numbered.numbered.Kinds as numbered-kinds
use Rattle.refusal.proofs.Numbered.numbered.Reads as numbered-reads
use Rattle.refusal.proofs.Numbered.of.Kinds as of-kinds
use Rattle.refusal.proofs.Numbered.of.Reads as of-reads
use Rattle.refusal.proofs.U32FromRefusal.from.Kinds as from-kinds
use Rattle.refusal.proofs.U32FromRefusal.from.Reads as from-reads

pub der-is_element : OneAnswer 1 is-element-kinds.ps is-element-kinds.r result is-element-reads.Post
der-is_element κs arguments x y s t p q = p ∙ sym q

pub der-is_name : OneAnswer 1 is-name-kinds.ps is-name-kinds.r result is-name-reads.Post
der-is_name κs arguments x y s t p q = p ∙ sym q

pub port4500-read : OneAnswer 1 read-kinds.ps read-kinds.r result read-reads.Post
port4500-read κs arguments x y s t p q = datagram_told-injective _ _ (p ∙ sym q)

pub port4500-handed_on : OneAnswer 1 handed_on-kinds.ps handed_on-kinds.r part handed_on-reads.Post
port4500-handed_on κs arguments x y s t p q = p ∙ sym q

pub identity-identity_code : OneAnswer 1 identity-code-kinds.ps identity-code-kinds.r result identity-code-reads.Post
identity-identity_code κs arguments x y s t p q = coded-injective _ _ (p ∙ sym q)

pub refusal-number : OneAnswer 0 number-kinds.ps number-kinds.r result number-reads.Post
refusal-number κs arguments x y s t p q = p ∙ sym q

pub refusal-from : OneAnswer 0 from-kinds.ps from-kinds.r result from-reads.Post
refusal-from κs arguments x y s t p q = p ∙ sym q

-- of a trait: whatever implements it
module _ (R : RattleType) (laws : Laws R) (copy : IsCopy R) (ghosts : Ghosts R.Denot) (dict : Dict) (clone : CloneGhosts R.Denot) (clone-dict : Dict) where
  pub refusal-numbered : OneAnswer 1 (numbered-kinds.ps R laws copy) (numbered-kinds.r R laws copy) result (numbered-reads.Post R laws copy ghosts dict clone clone-dict)
  refusal-numbered κs arguments x y s t p q = p ∙ sym q

  pub refusal-of : OneAnswer 1 (of-kinds.ps R laws copy) (of-kinds.r R laws copy) result (of-reads.Post R laws copy ghosts dict clone clone-dict)
  refusal-of κs arguments x y s t p q = p ∙ sym q
