use Prim.Native.Nat.{ℕ, ◌-◌}
use mathlib.Core.Path.{◌≡◌, ap}
use native.Mathlib.Omega.{arith}
use Rattle.sa_attribute.specs.Attributes.{find}
use Rattle.sa_attribute.proofs.Ways.{search_out, search_end, search_here, search_on}
use Rattle.sa_attribute.proofs.find.Goals as goal

pub loop-init : goal.loop-init
loop-init c =
    let all : c.args.most - 0 ≡ c.args.most = omega arith in
    ap (λ (k : ℕ). find k c.args.attributetype c.args.s.now) all

pub returns-then-rest-lt4 : goal.returns-then-rest-lt4
returns-then-rest-lt4 c = search search_end

pub returns-then-attribute_type-attributetype : goal.returns-then-attribute_type-attributetype
returns-then-attribute_type-attributetype c = search search_here

pub loop-preserved : goal.loop-preserved
loop-preserved c = search search_on

pub returns : goal.returns
returns c = search search_out
