use Rattle.sa_proposals.specs.Proposals.{none}
use Rattle.sa_proposals.proofs.ProposalWays.{offer-short, offer_doi, offer_situation, offer-proposals}
use Rattle.sa_proposals.proofs.offer_code.Goals as goal

pub returns-then-s-lt8 : goal.returns-then-s-lt8
returns-then-s-lt8 c = search offer-short

pub returns-then-be32-ne1 : goal.returns-then-be32-ne1
returns-then-be32-ne1 c = search offer_doi

pub returns-then-be32-ne1-2 : goal.returns-then-be32-ne1-2
returns-then-be32-ne1-2 c = search offer_situation

pub returns : goal.returns
unfolding none
returns c = search offer-proposals
