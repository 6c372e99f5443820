use native.Mathlib.Omega.{arith}
use Rattle.policy_reply.proofs.ReplyWays.{first-size, both-size, set-one, set-two}
use borrow.Author.Rules.{rules}
use Rattle.policy_reply.proofs.put_set.Goals as goal

pub overflow_add-next : goal.overflow_add-next
overflow_add-next c = omega (arith, first-size _ _ _ _ _ _ _ _ _ c.proposal-in-Two.ensures _ c.put_offered-first.ensures)

pub put_offered-requires-in-Two : goal.put_offered-requires-in-Two
put_offered-requires-in-Two c = omega (
  arith,
  (first-size _ _ _ _ _ _ _ _ _ c.proposal-in-Two.ensures _ c.put_offered-first.ensures),
)

pub overflow_add-result : goal.overflow_add-result
overflow_add-result c = omega (
  arith,
  (both-size _ _ _ _ _ _ _ _ _ c.proposal-in-Two.ensures _ _ _ _ c.proposal-in-Two-2.ensures
      c.put_offered-first.ensures c.put_offered-in-Two.ensures),
)

pub returns-in-One : goal.returns-in-One
returns-in-One c = search set-one

pub returns-in-Two : goal.returns-in-Two
returns-in-Two c = set-two _ _ _ _ _ _ _ _ _
    (c.proposal-in-Two.ensures)
    _ _ _ _ c.proposal-in-Two-2.ensures
    (let c = c in let c = c in c.put_offered-first.ensures)
    c.put_offered-in-Two.ensures _ (search rules)
