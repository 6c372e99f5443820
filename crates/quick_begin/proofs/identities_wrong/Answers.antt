use Rattle.quick_begin.proofs.Ways.{wrong_identities}
use Rattle.quick_begin.proofs.identities_wrong.Goals as goal

pub returns : goal.returns
returns c = wrong_identities _ _ _ _ _ _ c.identity_code.ensures c.is_ok.ensures.value c.identity_code-2.ensures c.is_ok-2.ensures.value
