use Rattle.sa_coding.proofs.Ways.{repeats-out, repeats-end, repeats-here, repeats-on}
use Rattle.sa_coding.proofs.repeats.Goals as goal

pub returns-then-rest-lt4 : goal.returns-then-rest-lt4
returns-then-rest-lt4 c = search repeats-end

pub returns-then-alike : goal.returns-then-alike
returns-then-alike c = search repeats-here

pub loop-passed-preserved : goal.loop-passed-preserved
loop-passed-preserved c = search repeats-on

pub returns : goal.returns
returns c = search repeats-out
