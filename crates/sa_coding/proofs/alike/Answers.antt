use Rattle.sa_coding.proofs.Ways.{alike_type, alike-single, alike-value}
use Rattle.sa_coding.proofs.alike.Goals as goal

pub returns-then-attribute_type-attributetype : goal.returns-then-attribute_type-attributetype
returns-then-attribute_type-attributetype c = search alike_type

pub returns-then-not-is_life_type : goal.returns-then-not-is_life_type
returns-then-not-is_life_type c = search alike-single

pub returns : goal.returns
returns c = search alike-value
