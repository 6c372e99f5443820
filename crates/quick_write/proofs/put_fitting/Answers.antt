use Prim.Native.Nat.{◌≤◌}
use native.Mathlib.Omega.{arith}
use Rattle.quick_write.proofs.Ways.{sa_fits, nonces_fit, around-fits, longer-written}
use Rattle.quick_write.proofs.put_fitting.Goals as goal

pub overflow_add-sa : goal.overflow_add-sa
overflow_add-sa c =
    let sa : c.put_sa-sa.result ≤ 4140 = sa_fits _ _ _ _ _ _ (omega arith) c.put_sa-sa.ensures in
    omega arith

pub put_nonce-rest-requires : goal.put_nonce-rest-requires
put_nonce-rest-requires c =
    let sa : c.put_sa-sa.result ≤ 4140 = sa_fits _ _ _ _ _ _ (omega arith) c.put_sa-sa.ensures in
    (omega arith, omega arith, omega arith)

pub overflow_add-sa-2 : goal.overflow_add-sa-2
overflow_add-sa-2 c =
    let sa : c.put_sa-sa.result ≤ 4140 = sa_fits _ _ _ _ _ _ (omega arith) c.put_sa-sa.ensures in
    let rest : c.put_nonce-rest.result ≤ 8460 = nonces_fit _ _ _ _ _ _ _ (omega arith) (omega arith) c.put_nonce-rest.ensures in
    omega arith

pub overflow_add-sa-3 : goal.overflow_add-sa-3
overflow_add-sa-3 c =
    let sa : c.put_sa-sa.result ≤ 4140 = sa_fits _ _ _ _ _ _ (omega arith) c.put_sa-sa.ensures in
    let rest : c.put_nonce-rest.result ≤ 8460 = nonces_fit _ _ _ _ _ _ _ (omega arith) (omega arith) c.put_nonce-rest.ensures in
    omega arith

pub put_around-requires : goal.put_around-requires
put_around-requires c =
    let sa : c.put_sa-sa.result ≤ 4140 = sa_fits _ _ _ _ _ _ (omega arith) c.put_sa-sa.ensures in
    let rest : c.put_nonce-rest.result ≤ 8460 = nonces_fit _ _ _ _ _ _ _ (omega arith) (omega arith) c.put_nonce-rest.ensures in
    omega arith

pub overflow_cast-result : goal.overflow_cast-result
overflow_cast-result c =
    let sa : c.put_sa-sa.result ≤ 4140 = sa_fits _ _ _ _ _ _ (omega arith) c.put_sa-sa.ensures in
    let rest : c.put_nonce-rest.result ≤ 8460 = nonces_fit _ _ _ _ _ _ _ (omega arith) (omega arith) c.put_nonce-rest.ensures in
    omega (arith, around-fits _ _ _ _ _ _ c.put_around.ensures)

pub returns : goal.returns
returns c =
    longer-written _ _ _ _ _ _ _ _ _ _ _ _ _ _ c.put_sa-sa.ensures c.put_headed.ensures c.put_nonce-rest.ensures c.put_around.ensures
