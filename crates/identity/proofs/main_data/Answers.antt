use Rattle.identity.specs.Identity.{main_data}
use Rattle.identity.proofs.Ways.{no_main}
use Rattle.identity.proofs.main_data.Goals as goal

pub returns-in-1 : goal.returns-in-1
unfolding main_data
returns-in-1 c = rw c.in-1.is

pub returns-in-5 : goal.returns-in-5
unfolding main_data
returns-in-5 c = rw c.in-5.is

pub returns-in-2 : goal.returns-in-2
unfolding main_data
returns-in-2 c = rw c.in-2.is c.one_to_255.ensures

pub returns-in-3 : goal.returns-in-3
unfolding main_data
returns-in-3 c = rw c.in-3.is c.one_to_255-in-3.ensures

pub returns-in-11 : goal.returns-in-11
unfolding main_data
returns-in-11 c = rw c.in-11.is c.one_to_255-in-11.ensures

pub returns-in-9 : goal.returns-in-9
unfolding main_data
returns-in-9 c = rw c.in-9.is c.is_name.ensures

pub returns-in-10 : goal.returns-in-10
unfolding main_data
returns-in-10 c = rw c.in-10.is c.is_element.ensures

pub returns-in_default : goal.returns-in_default
unfolding main_data
returns-in_default c = search no_main
