-- Behind the last slash of a text a character begins.
use Rattle.std.proofs.Common.{◌≡◌, ℕ, zero, suc, ◌<◌, ◌≤◌, ◌+◌, ◌-◌, ◌==◌, not, true, false, List, length, get_or, reverse, refl, sym, ap, subst, ◌∙◌, arith}
use Rattle.std.specs.List.{suffix_len}
use Rattle.std.specs.Str.{IsUtf8, IsCharBoundary}
use Rattle.std.proofs.lemmas.Bool.Decides.{nat_tests}
use Rattle.std.proofs.lemmas.List.{get_or-reverse, length-reverse}
use Rattle.std.proofs.lemmas.List.Sums.{prefix_len_stops, suffix_len-le-length}
use Rattle.std.proofs.lemmas.Str.{IsCharBoundary-after_ascii, IsCharBoundary-start}
use Rattle.dap_link.specs.Conversation.{is_no_slash}

is_slash : (byte : ℕ) → is_no_slash byte ≡ false → byte ≡ 47
is_slash byte e = grind (arith, nat_tests)

pub part_boundary : (bytes : List ℕ) → IsUtf8 bytes → IsCharBoundary bytes (length bytes - suffix_len is_no_slash bytes)
part_boundary bytes u = by (length bytes - suffix_len is_no_slash bytes) refl
  where
    within : suffix_len is_no_slash bytes ≤ length bytes
    within = suffix_len-le-length is_no_slash bytes

    by : (n : ℕ) → n ≡ length bytes - suffix_len is_no_slash bytes → IsCharBoundary bytes n
    by zero e = IsCharBoundary-start bytes u
    by (suc n) e =
        let some : suffix_len is_no_slash bytes < length bytes = omega (arith, e, within) in
        let same : length (reverse bytes) ≡ length bytes = length-reverse bytes in
        let stops = prefix_len_stops is_no_slash (reverse bytes) 0 (omega (arith, some, same)) in
        let at : length bytes - 1 - suffix_len is_no_slash bytes ≡ n = omega (arith, e, some) in
        let byte : get_or (reverse bytes) (suffix_len is_no_slash bytes) 0 ≡ get_or bytes n 0 =
        get_or-reverse bytes (suffix_len is_no_slash bytes) 0 some ∙ ap (λ (k : ℕ). get_or bytes k 0) at in
        let slash : get_or bytes n 0 ≡ 47 = is_slash (get_or bytes n 0) (ap is_no_slash (sym byte) ∙ stops) in
        subst (IsCharBoundary bytes) (let z : n + 1 ≡ suc n = omega arith in z) (IsCharBoundary-after_ascii bytes n u (omega (arith, e)) (omega (arith, slash)))
