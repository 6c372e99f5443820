-- No second answer, of the family sa (OneAnswer.antt says what that is).
use Rattle.std.proofs.Common.{sym, ◌∙◌}
use Rattle.refusal.proofs.Laws.{coded-injective}
use Rattle.promises.specs.OneAnswer.{OneAnswer, result, part}
use Rattle.sa_attribute.proofs.sent_fixed.Kinds as sent-fixed-kinds
use Rattle.sa_attribute.proofs.sent_fixed.Reads as sent-fixed-reads
use Rattle.sa_attribute.proofs.attribute_type.Kinds as attribute-type-kinds
use Rattle.sa_attribute.proofs.attribute_type.Reads as attribute-type-reads
use Rattle.sa_attribute.proofs.attribute_size.Kinds as attribute-size-kinds
use Rattle.sa_attribute.proofs.attribute_size.Reads as attribute-size-reads
use Rattle.sa_attribute.proofs.attribute.Kinds as attribute-kinds
use Rattle.sa_attribute.proofs.attribute.Reads as attribute-reads
use Rattle.sa_attribute.proofs.value.Kinds as value-kinds
use Rattle.sa_attribute.proofs.value.Reads as value-reads
use Rattle.sa_attribute.proofs.attribute_count.Kinds as attribute-count-kinds
use Rattle.sa_attribute.proofs.attribute_count.Reads as attribute-count-reads
use Rattle.sa_coding.proofs.attributes_code.Kinds as attributes-code-kinds
use Rattle.sa_coding.proofs.attributes_code.Reads as attributes-code-reads
use Rattle.sa_transforms.proofs.transforms_code.Kinds as transforms-code-kinds
use Rattle.sa_transforms.proofs.transforms_code.Reads as transforms-code-reads
use Rattle.sa_proposals.proofs.transform_bytes.Kinds as transform-bytes-kinds
use Rattle.sa_proposals.proofs.transform_bytes.Reads as transform-bytes-reads
use Rattle.sa_proposals.proofs.offer_code.Kinds as offer-code-kinds
use Rattle.sa_proposals.proofs.offer_code.Reads as offer-code-reads
use Rattle.sa_fields.proofs.proposal_number.Kinds as proposal-number-kinds
use Rattle.sa_fields.proofs.proposal_number.Reads as proposal-number-reads
use Rattle.sa_fields.proofs.protocol.Kinds as protocol-kinds
use Rattle.sa_fields.proofs.protocol.Reads as protocol-reads
use Rattle.sa_fields.proofs.spi.Kinds as spi-kinds
use Rattle.sa_fields.proofs.spi.Reads as spi-reads
use Rattle.sa_fields.proofs.transform_count.Kinds as transform-count-kinds
use Rattle.sa_fields.proofs.transform_count.Reads as transform-count-reads
use Rattle.sa_fields.proofs.transform_number.Kinds as transform-number-kinds
use Rattle.sa_fields.proofs.transform_number.Reads as transform-number-reads
use Rattle.sa_fields.proofs.transform_id.Kinds as transform-id-kinds
use Rattle.sa_fields.proofs.transform_id.Reads as transform-id-reads
use Rattle.sa_fields.proofs.attributes_of.Kinds as attributes-of-kinds
use Rattle.sa_fields.proofs.attributes_of.Reads as attributes-of-reads
use Rattle.sa_items.proofs.proposal.Kinds as proposal-kinds
use Rattle.sa_items.proofs.proposal.Reads as proposal-reads
use Rattle.sa_items.proofs.proposal_count.Kinds as proposal-count-kinds
use Rattle.sa_items.proofs.proposal_count.Reads as proposal-count-reads
use Rattle.sa_items.proofs.transform.Kinds as transform-kinds
use Rattle.sa_items.proofs.transform.Reads as transform-reads
use Rattle.sa_items.proofs.transform_numbered.Kinds as transform-numbered-kinds
use Rattle.sa_items.proofs.transform_numbered.Reads as transform-numbered-reads
use Rattle.sa_sets.proofs.set.Kinds as set-kinds
use Rattle.sa_sets.proofs.set.Reads as set_Reads
use Rattle.sa_sets.proofs.set_count.Kinds as set-count-kinds
use Rattle.sa_sets.proofs.set_count.Reads as set-count-reads
use Rattle.sa_sets.proofs.set_numbered.Kinds as set-numbered-kinds
use Rattle.sa_sets.proofs.set_numbered.Reads as set-numbered-reads

pub sa_attribute-sent_fixed : OneAnswer 1 sent-fixed-kinds.ps sent-fixed-kinds.r result sent-fixed-reads.Post
sa_attribute-sent_fixed κs arguments x y s t p q = p ∙ sym q

pub sa_attribute-attribute_type : OneAnswer 1 attribute-type-kinds.ps attribute-type-kinds.r result attribute-type-reads.Post
sa_attribute-attribute_type κs arguments x y s t p q = p ∙ sym q

pub sa_attribute-attribute_size : OneAnswer 1 attribute-size-kinds.ps attribute-size-kinds.r result attribute-size-reads.Post
sa_attribute-attribute_size κs arguments x y s t p q = p ∙ sym q

pub sa_attribute-attribute : OneAnswer 1 attribute-kinds.ps attribute-kinds.r part attribute-reads.Post
sa_attribute-attribute κs arguments x y s t p q = p ∙ sym q

pub sa_attribute-value : OneAnswer 1 value-kinds.ps value-kinds.r result value-reads.Post
sa_attribute-value κs arguments x y s t p q = p ∙ sym q

pub sa_attribute-attribute_count : OneAnswer 1 attribute-count-kinds.ps attribute-count-kinds.r result attribute-count-reads.Post
sa_attribute-attribute_count κs arguments x y s t p q = p ∙ sym q

pub sa_coding-attributes_code : OneAnswer 1 attributes-code-kinds.ps attributes-code-kinds.r result attributes-code-reads.Post
sa_coding-attributes_code κs arguments x y s t p q = coded-injective _ _ (p ∙ sym q)

pub sa_transforms-transforms_code : OneAnswer 1 transforms-code-kinds.ps transforms-code-kinds.r result transforms-code-reads.Post
sa_transforms-transforms_code κs arguments x y s t p q = coded-injective _ _ (p ∙ sym q)

pub sa_proposals-transform_bytes : OneAnswer 1 transform-bytes-kinds.ps transform-bytes-kinds.r part transform-bytes-reads.Post
sa_proposals-transform_bytes κs arguments x y s t p q = p ∙ sym q

pub sa_proposals-offer_code : OneAnswer 1 offer-code-kinds.ps offer-code-kinds.r result offer-code-reads.Post
sa_proposals-offer_code κs arguments x y s t p q = coded-injective _ _ (p ∙ sym q)

pub sa_fields-proposal_number : OneAnswer 1 proposal-number-kinds.ps proposal-number-kinds.r result proposal-number-reads.Post
sa_fields-proposal_number κs arguments x y s t p q = p ∙ sym q

pub sa_fields-protocol : OneAnswer 1 protocol-kinds.ps protocol-kinds.r result protocol-reads.Post
sa_fields-protocol κs arguments x y s t p q = p ∙ sym q

pub sa_fields-spi : OneAnswer 1 spi-kinds.ps spi-kinds.r part spi-reads.Post
sa_fields-spi κs arguments x y s t p q = p ∙ sym q

pub sa_fields-transform_count : OneAnswer 1 transform-count-kinds.ps transform-count-kinds.r result transform-count-reads.Post
sa_fields-transform_count κs arguments x y s t p q = p ∙ sym q

pub sa_fields-transform_number : OneAnswer 1 transform-number-kinds.ps transform-number-kinds.r result transform-number-reads.Post
sa_fields-transform_number κs arguments x y s t p q = p ∙ sym q

pub sa_fields-transform_id : OneAnswer 1 transform-id-kinds.ps transform-id-kinds.r result transform-id-reads.Post
sa_fields-transform_id κs arguments x y s t p q = p ∙ sym q

pub sa_fields-attributes_of : OneAnswer 1 attributes-of-kinds.ps attributes-of-kinds.r part attributes-of-reads.Post
sa_fields-attributes_of κs arguments x y s t p q = p ∙ sym q

pub sa_items-proposal : OneAnswer 1 proposal-kinds.ps proposal-kinds.r part proposal-reads.Post
sa_items-proposal κs arguments x y s t p q = p ∙ sym q

pub sa_items-proposal_count : OneAnswer 1 proposal-count-kinds.ps proposal-count-kinds.r result proposal-count-reads.Post
sa_items-proposal_count κs arguments x y s t p q = p ∙ sym q

pub sa_items-transform : OneAnswer 1 transform-kinds.ps transform-kinds.r part transform-reads.Post
sa_items-transform κs arguments x y s t p q = p ∙ sym q

pub sa_items-transform_numbered : OneAnswer 1 transform-numbered-kinds.ps transform-numbered-kinds.r part transform-numbered-reads.Post
sa_items-transform_numbered κs arguments x y s t p q = p ∙ sym q

pub sa_sets-set : OneAnswer 1 set-kinds.ps set-kinds.r part set_Reads.Post
sa_sets-set κs arguments x y s t p q = p ∙ sym q

pub sa_sets-set_count : OneAnswer 1 set-count-kinds.ps set-count-kinds.r result set-count-reads.Post
sa_sets-set_count κs arguments x y s t p q = p ∙ sym q

pub sa_sets-set_numbered : OneAnswer 1 set-numbered-kinds.ps set-numbered-kinds.r part set-numbered-reads.Post
sa_sets-set_numbered κs arguments x y s t p q = p ∙ sym q
