use native.Mathlib.Omega.{arith}
use Rattle.quick_write.proofs.Ways.{headed-fits, nonce-fits, nonce-alone, nonce-with}
use Rattle.quick_write.proofs.put_nonce.Goals as goal

-- the nonce has at most 256 bytes, alone or before the identities
pub overflow_cast-result : goal.overflow_cast-result
overflow_cast-result c = omega (arith, headed-fits _ _ _ _ _ _ c.put_headed.ensures, nonce-fits _ _ _ _ c.nonce_size-size.ensures c.front-nonce.ensures)

pub returns-then-first-eq0 : goal.returns-then-first-eq0
returns-then-first-eq0 c = search nonce-alone

pub overflow_cast-start : goal.overflow_cast-start
overflow_cast-start c = omega (arith, headed-fits _ _ _ _ _ _ c.put_headed-2.ensures, nonce-fits _ _ _ _ c.nonce_size-size.ensures c.front-nonce.ensures)

pub overflow_add-start : goal.overflow_add-start
overflow_add-start c = omega (arith, headed-fits _ _ _ _ _ _ c.put_headed-2.ensures, nonce-fits _ _ _ _ c.nonce_size-size.ensures c.front-nonce.ensures)

pub overflow_cast-start-2 : goal.overflow_cast-start-2
overflow_cast-start-2 c = omega (arith, headed-fits _ _ _ _ _ _ c.put_headed-2.ensures, nonce-fits _ _ _ _ c.nonce_size-size.ensures c.front-nonce.ensures)

pub overflow_cast-end : goal.overflow_cast-end
overflow_cast-end c = omega (arith, headed-fits _ _ _ _ _ _ c.put_headed-3.ensures)

pub overflow_add-end : goal.overflow_add-end
overflow_add-end c = omega (arith, headed-fits _ _ _ _ _ _ c.put_headed-3.ensures, headed-fits _ _ _ _ _ _ c.put_headed-2.ensures, nonce-fits _ _ _ _ c.nonce_size-size.ensures c.front-nonce.ensures)

pub overflow_cast-end-2 : goal.overflow_cast-end-2
overflow_cast-end-2 c = omega (arith, headed-fits _ _ _ _ _ _ c.put_headed-3.ensures, headed-fits _ _ _ _ _ _ c.put_headed-2.ensures, nonce-fits _ _ _ _ c.nonce_size-size.ensures c.front-nonce.ensures)

pub overflow_cast-result-2 : goal.overflow_cast-result-2
overflow_cast-result-2 c = omega (arith, headed-fits _ _ _ _ _ _ c.put_headed-4.ensures)

pub overflow_add-result : goal.overflow_add-result
overflow_add-result c = omega (arith, headed-fits _ _ _ _ _ _ c.put_headed-4.ensures, headed-fits _ _ _ _ _ _ c.put_headed-3.ensures, headed-fits _ _ _ _ _ _ c.put_headed-2.ensures, nonce-fits _ _ _ _ c.nonce_size-size.ensures c.front-nonce.ensures)

pub returns : goal.returns
returns c = search nonce-with
