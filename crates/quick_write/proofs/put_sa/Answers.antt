use native.Mathlib.Omega.{arith}
use Rattle.policy_reply.proofs.ReplyWays.{reply_fits}
use Rattle.quick_write.proofs.Ways.{sa_offer, sa_reply}
use Rattle.quick_write.proofs.put_sa.Goals as goal

pub overflow_cast-result : goal.overflow_cast-result
overflow_cast-result c = omega (arith, reply_fits _ _ _ _ _ _ _ _ _ c.put_reply.ensures)

pub returns-in-Offer : goal.returns-in-Offer
returns-in-Offer c = search sa_offer

pub returns-in-Reply : goal.returns-in-Reply
returns-in-Reply c = search sa_reply
