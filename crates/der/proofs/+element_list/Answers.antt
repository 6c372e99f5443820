use mathlib.Core.Path.{refl}
use Rattle.der.proofs.Ways.{element_deep, element_wrong, element-plain, element-filled, element_unfilled, list-end, list-stop, list_on, list-shorter}
use Rattle.der.proofs.+element_list.Goals as goal

pub element-returns-then-levels-eq0 : goal.element-returns-then-levels-eq0
element-returns-then-levels-eq0 t c = search element_deep

pub element-returns-then-n-eq0 : goal.element-returns-then-n-eq0
element-returns-then-n-eq0 t c = search element_wrong

pub element-returns-then-list : goal.element-returns-then-list
element-returns-then-list t c = search element-filled

pub element-returns-else-list : goal.element-returns-else-list
element-returns-else-list t c = search element_unfilled

pub element-returns-else-constructed : goal.element-returns-else-constructed
element-returns-else-constructed t c = search element-plain

pub list-returns-then-n-eq0 : goal.list-returns-then-n-eq0
list-returns-then-n-eq0 t c = search list-stop

pub list-loop-rest-init : goal.list-loop-rest-init
list-loop-rest-init t c = refl

pub list-loop-rest-smaller : goal.list-loop-rest-smaller
list-loop-rest-smaller t c = search list-shorter

pub list-loop-rest-preserved : goal.list-loop-rest-preserved
list-loop-rest-preserved t c = search list_on

pub list-returns : goal.list-returns
list-returns t c = search list-end
