-- `numbers::eight` meets its contract: each byte is set above the last one.
use Prim.Native.Nat.{ℕ, ◌+◌, ◌*◌}
use native.Mathlib.Omega.{arith}
use Rattle.layouts.specs.Primitive.{little_at}
use Rattle.numbers.proofs.Word.{join}
use Rattle.numbers.proofs.eight.Goals as goal

pub returns : goal.returns
unfolding little_at
returns c =
    let r0 = c.wide.result in
    let r1 = c.wide-2.result in
    let r2 = c.wide-3.result in
    let r3 = c.wide-4.result in
    let r4 = c.wide-5.result in
    let r5 = c.wide-6.result in
    let r6 = c.wide-7.result in
    let r7 = c.wide-8.result in
    let s1 : ℕ = r0 + r1 * 256 in
    let s2 : ℕ = s1 + r2 * 65536 in
    let s3 : ℕ = s2 + r3 * 16777216 in
    let s4 : ℕ = s3 + r4 * 4294967296 in
    let s5 : ℕ = s4 + r5 * 1099511627776 in
    let s6 : ℕ = s5 + r6 * 281474976710656 in
    let s7 : ℕ = s6 + r7 * 72057594037927936 in
    let j1 = join 8 r1 r0 (omega arith) (omega arith) (omega arith) in
    let j2 = join 16 r2 s1 (omega arith) (omega arith) (omega arith) in
    let j3 = join 24 r3 s2 (omega arith) (omega arith) (omega arith) in
    let j4 = join 32 r4 s3 (omega arith) (omega arith) (omega arith) in
    let j5 = join 40 r5 s4 (omega arith) (omega arith) (omega arith) in
    let j6 = join 48 r6 s5 (omega arith) (omega arith) (omega arith) in
    let j7 = join 56 r7 s6 (omega arith) (omega arith) (omega arith) in
    rw (j1, j2, j3, j4, j5, j6, j7) (omega arith)
