use Rattle.std.proofs.Common.{◌∙◌}
use Rattle.policy_why.proofs.Told.{offer_told-handed_on}
use Rattle.policy_why.proofs.WhyWays.{offer-book, offer-lawful}
use Rattle.policy_why.proofs.offered.Goals as goal

pub returns-in_err-read_book : goal.returns-in_err-read_book
returns-in_err-read_book c = let told = c.in_err-read_book.ensures in
    offer_told-handed_on c.from_residual.result c.in_err-read_book.field-0.0 c.from_residual.ensures.1 ∙ search offer-book

pub returns : goal.returns
returns c = let told = c.in_ok-read_book.ensures in search offer-lawful
