use Prim.Native.Nat.{◌+◌, ◌<◌}
use lib.ListN.{length}
use native.Mathlib.Omega.{arith}
use Rattle.bench_words.proofs.WordLaws.{found_within, found_there, none_before, none_at_all}
use Rattle.bench_words.proofs.words.find.Goals as goal

pub returns-in-Some : goal.returns-in-Some
returns-in-Some c =
    let within : c.args.from + c.in-Some.n < length c.args.s.now = found_within _ _ _ _ c.after.ensures _ c.in-Some.ensures in record {
      within = omega arith;
      behind = omega arith;
      before = none_before _ _ _ _ c.after.ensures _ c.in-Some.ensures;
      found = λ _. found_there _ _ _ _ c.after.ensures _ c.in-Some.ensures;
    }

pub returns-in-None : goal.returns-in-None
returns-in-None c = record {
  within = omega arith;
  behind = omega arith;
  before = none_at_all _ _ _ _ c.after.ensures c.in-None.ensures;
  found = λ h. absurd (omega arith);
}
