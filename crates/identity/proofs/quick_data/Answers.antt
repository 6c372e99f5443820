use Rattle.identity.specs.Identity.{quick_data}
use Rattle.identity.proofs.Ways.{no_quick}
use Rattle.identity.proofs.quick_data.Goals as goal

pub returns-in-1 : goal.returns-in-1
unfolding quick_data
returns-in-1 c = rw c.in-1.is

pub returns-in-4 : goal.returns-in-4
unfolding quick_data
returns-in-4 c = rw c.in-4.is

pub returns-in-5 : goal.returns-in-5
unfolding quick_data
returns-in-5 c = rw c.in-5.is

pub returns-in-6 : goal.returns-in-6
unfolding quick_data
returns-in-6 c = rw c.in-6.is

pub returns-in-7 : goal.returns-in-7
unfolding quick_data
returns-in-7 c = rw c.in-7.is

pub returns-in-8 : goal.returns-in-8
unfolding quick_data
returns-in-8 c = rw c.in-8.is

pub returns-in_default : goal.returns-in_default
unfolding quick_data
returns-in_default c = search no_quick
