use Rattle.std.proofs.Common.{sym, ◌∙◌}
use Rattle.refusal.proofs.Laws.{number-refuses}
use Rattle.message_chain.proofs.Told.{message_told-handed_on}
use Rattle.message_chain.proofs.Ways.{read-refused, read-chain}
use Rattle.message_chain.proofs.read.Goals as goal

pub returns-in_err-header_code : goal.returns-in_err-header_code
returns-in_err-header_code c = let refusal = c.in_err-header_code.field-0.0 in let refuses = number-refuses refusal in
    let told = c.in_err-header_code.ensures in
    message_told-handed_on c.from_residual.result refusal c.from_residual.ensures.1 ∙ search read-refused

pub returns : goal.returns
returns c = let fine = sym c.in_ok-header_code.ensures in search read-chain
