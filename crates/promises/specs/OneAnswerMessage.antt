-- No second answer, of the family message (OneAnswer.antt says what that is).
use Rattle.std.proofs.Common.{sym, ◌∙◌}
use Rattle.refusal.proofs.Laws.{coded-injective}
use Rattle.message_chain.proofs.Told.{message_told-injective}
use Rattle.promises.specs.OneAnswer.{OneAnswer, result}
use Rattle.message_header.proofs.header_code.Kinds as header-code-kinds
use Rattle.message_header.proofs.header_code.Reads as header-code-reads
use Rattle.message_payload.proofs.payload_code.Kinds as payload-code-kinds
use Rattle.message_payload.proofs.payload_code.Reads as payload-code-reads
use Rattle.message_payload.proofs.rest_code.Kinds as rest-code-kinds
use Rattle.message_payload.proofs.rest_code.Reads as rest-code-reads
use Rattle.message_chain.proofs.read.Kinds as read-kinds
use Rattle.message_chain.proofs.read.Reads as read-reads
use Rattle.message_chain.proofs.payload_at.Kinds as payload-at-kinds
use Rattle.message_chain.proofs.payload_at.Reads as payload-at-reads

pub message_header-header_code : OneAnswer 1 header-code-kinds.ps header-code-kinds.r result header-code-reads.Post
message_header-header_code κs arguments x y s t p q = coded-injective _ _ (p ∙ sym q)

pub message_payload-payload_code : OneAnswer 1 payload-code-kinds.ps payload-code-kinds.r result payload-code-reads.Post
message_payload-payload_code κs arguments x y s t p q = coded-injective _ _ (p ∙ sym q)

pub message_payload-rest_code : OneAnswer 1 rest-code-kinds.ps rest-code-kinds.r result rest-code-reads.Post
message_payload-rest_code κs arguments x y s t p q = coded-injective _ _ (p ∙ sym q)

pub message_chain-read : OneAnswer 1 read-kinds.ps read-kinds.r result read-reads.Post
message_chain-read κs arguments x y s t p q = message_told-injective _ _ (p ∙ sym q)

pub message_chain-payload_at : OneAnswer 1 payload-at-kinds.ps payload-at-kinds.r result payload-at-reads.Post
message_chain-payload_at κs arguments x y s t p q = p ∙ sym q
