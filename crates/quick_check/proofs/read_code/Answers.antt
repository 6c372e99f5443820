use Rattle.std.specs.Prelude.{eqb}
use Rattle.std.proofs.Common.{sym, ap, ◌∙◌}
use Rattle.refusal.specs.Numbers.{coded}
use Rattle.refusal.proofs.Laws.{number-not_zero, coded_by-handed_on, handed_on-refused}
use Rattle.quick_check.specs.Checks.{read_code}
use Rattle.quick_check.proofs.read_code.Goals as goal

pub returns-in_err-exchange-clause-numbered : goal.returns-in_err-exchange-clause-numbered
unfolding read_code
returns-in_err-exchange-clause-numbered g c =
    rw c.in_err-exchange.was (coded_by-handed_on g.R.Numbered.numbered c.from_residual.result _ c.from_residual.ensures.1)

pub returns-in_err-exchange-clause-passed : goal.returns-in_err-exchange-clause-passed
returns-in_err-exchange-clause-passed g c =
    rw c.in_err-exchange.was (handed_on-refused g.R.Numbered.numbered c.from_residual.result _ c.from_residual.ensures.1)

pub returns-in-Err-clause-numbered : goal.returns-in-Err-clause-numbered
unfolding read_code
returns-in-Err-clause-numbered g c =
    rw c.in_ok-exchange.was
    (ap g.R.Numbered.numbered c.of.ensures ∙ g.met.R.Numbered.same_number c.in-Err.refusal ∙ sym (ap coded c.in-Err.is) ∙ c.quick_code.ensures)

pub returns-in-Err-clause-passed : goal.returns-in-Err-clause-passed
unfolding read_code
returns-in-Err-clause-passed g c =
    rw c.in_ok-exchange.was
    (sym (ap (λ n. eqb n 0) (sym c.quick_code.ensures ∙ ap coded c.in-Err.is) ∙ number-not_zero c.in-Err.refusal))

pub returns-in-Ok-clause-numbered : goal.returns-in-Ok-clause-numbered
unfolding read_code
returns-in-Ok-clause-numbered g c = rw c.in_ok-exchange.was (sym (ap coded c.in-Ok.is) ∙ c.quick_code.ensures)

pub returns-in-Ok-clause-passed : goal.returns-in-Ok-clause-passed
unfolding read_code
returns-in-Ok-clause-passed g c =
    rw c.in_ok-exchange.was (sym (ap (λ n. eqb n 0) (sym c.quick_code.ensures ∙ ap coded c.in-Ok.is)))
