use Rattle.std.proofs.Common.{sym, ◌∙◌}
use Rattle.refusal.proofs.Laws.{number-refuses}
use Rattle.message_chain.proofs.Told.{message_told-handed_on}
use native.Mathlib.Omega.{arith}
use Rattle.message_chain.proofs.Ways.{chain-none, chain-refused, chain-on, chain-rest, chain-end}
use Rattle.message_chain.proofs.+chain.Goals as goal

pub returns-then-left-eq0 : goal.returns-then-left-eq0
returns-then-left-eq0 t c = search chain-none

pub returns-in_err-payload_code : goal.returns-in_err-payload_code
returns-in_err-payload_code t c = let refusal = c.in_err-payload_code.field-0.0 in let refuses = number-refuses refusal in
    let told = c.in_err-payload_code.ensures in
    message_told-handed_on c.from_residual.result refusal c.from_residual.ensures.1 ∙ search chain-refused

pub chain-requires : goal.chain-requires
chain-requires t c = (omega arith, omega arith)

pub returns-then-next-ne0 : goal.returns-then-next-ne0
returns-then-next-ne0 t c = let fine = sym c.in_ok-payload_code.ensures in search chain-on

pub returns-in_err-rest_code : goal.returns-in_err-rest_code
returns-in_err-rest_code t c = let refusal = c.in_err-rest_code.field-0.0 in let refuses = number-refuses refusal in
    let fine = sym c.in_ok-payload_code.ensures in let told = c.in_err-rest_code.ensures in
    message_told-handed_on c.from_residual-in_err-rest_code.result refusal c.from_residual-in_err-rest_code.ensures.1 ∙ search chain-rest

pub returns : goal.returns
returns t c = let fine = sym c.in_ok-payload_code.ensures in let fine2 = sym c.in_ok-rest_code.ensures in search chain-end fits 20000
