use Rattle.sa_proposals.proofs.ProposalWays.{proposal_wrong_lem, proposal_order, proposal-protocol, proposal-spi, proposal-count, proposal_inner}
use Rattle.sa_proposals.proofs.proposal_code.Goals as goal

pub returns-then-proposal_wrong : goal.returns-then-proposal_wrong
returns-then-proposal_wrong c = search proposal_wrong_lem

pub returns-then-order_wrong : goal.returns-then-order_wrong
returns-then-order_wrong c = search proposal_order

pub returns-then-protocol_wrong : goal.returns-then-protocol_wrong
returns-then-protocol_wrong c = search proposal-protocol

pub returns-then-spi_wrong : goal.returns-then-spi_wrong
returns-then-spi_wrong c = search proposal-spi

pub returns-then-count_wrong : goal.returns-then-count_wrong
returns-then-count_wrong c = search proposal-count

pub returns : goal.returns
returns c = search proposal_inner
