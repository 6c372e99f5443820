-- The code of a test, by what the test says.
use Prim.Native.Nat.{ℕ}
use mathlib.Core.Path.{◌≡◌}
use mathlib.Core.Bool.{Bool, true, false}
use Rattle.exports_reading.specs.Names.{lawful_code}

pub code_lawful : (lawful : Bool) → lawful ≡ true → 0 ≡ lawful_code lawful
unfolding lawful_code
code_lawful lawful is = rw is

pub code_wrong : (lawful : Bool) → lawful ≡ false → 18 ≡ lawful_code lawful
unfolding lawful_code
code_wrong lawful is = rw is

pub code_said : (lawful said : Bool) (code : ℕ) → lawful ≡ said → code ≡ lawful_code lawful → code ≡ lawful_code said
code_said lawful said code same is = rw (← same) is
