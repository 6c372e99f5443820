use Rattle.std.proofs.Common.{◌≡◌, ◌-◌}
use Rattle.sa_coding.specs.Coding.{repeats}
use Rattle.sa_coding.proofs.repeats.Given as goal

abbrev pub invariant-loop-passed : goal.invariant-loop-passed
invariant-loop-passed l = repeats (l.most - l._passed) l.exchange l.rest l.s ≡ repeats l.most l.exchange l.before l.s
