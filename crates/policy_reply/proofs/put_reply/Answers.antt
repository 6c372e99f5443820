use native.Mathlib.Omega.{arith}
use Rattle.policy_reply.proofs.ReplyWays.{set-fits, sa_written}
use Rattle.policy_reply.proofs.put_reply.Goals as goal

pub overflow_add-size : goal.overflow_add-size
overflow_add-size c = omega (arith, set-fits _ _ _ _ _ _ _ _ c.put_set-size.ensures)

pub returns : goal.returns
returns c = search sa_written
