-- Two scripts: one that passes, and one that does not. So the rule is neither empty nor full.
use Rattle.std.proofs.Common.{refl}
use Rattle.spec_text.specs.Bytes.{Bytes, bytes}
use Rattle.proof_calls.specs.Passed.{Passes}
use Rattle.proof_calls.proofs.Passed.{passes_if}

-- script k: `def f(n):` that holds `def g(): return n`
abbrev k : Bytes
k = bytes "tree\t0\t1\ndef\t0\t40\tf\t1\tn\ndef\t10\t40\tg\t1\nreturn\t20\t28\nvar\t27\t28\tn\n"

k_passes : Passes k 16_384
k_passes = (passes_if k 16_384).0 refl

-- script b: `x = x`
abbrev b : Bytes
b = bytes "tree\t0\t1\nassign\t0\t5\nvar\t4\t5\tx\nvar\t0\t1\tx\n"

b_fails : Passes b 16_384 → ⊥
b_fails p =
    let e = (passes_if b 16_384).1 p in
    cc
