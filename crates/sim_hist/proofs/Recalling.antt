-- What a trace recalls stays true as it goes on.
use Rattle.std.proofs.Common.{◌≡◌, ℕ, ◌+◌, ◌-◌, ◌*◌, ◌/◌, ◌%◌, ◌<◌, ◌≤◌, ◌==◌, Bool, true, false, ◌&&◌, if◌then◌else◌, List, [], ◌∷◌, ◌++◌, length, get_or, Option, Some, None, refl, sym, ap, ap₂, ◌∙◌, arith, ⊎_elim, subst, Vec, Global, map, ◌⊎◌, inl, inr, true≢false, zero, suc}
use Rattle.std.specs.Prelude.{All, slice_get, slice_index_or}
use Rattle.std.proofs.lemmas.List.{length-map, get_or-map, length_push, get_or_append_left, get_or_push}
use Rattle.std.proofs.lemmas.Bool.{cases_lt, eqb-true, eq-eqb}
use Rattle.bv_core.specs.Value.{Bits}
use Rattle.tree_core.proofs.Same.{both_true}
use Rattle.tree_core.specs.Tree as tree
use Rattle.tree_core.specs.Width.{origin_width}
use Rattle.net_core.specs.Nets.{NetParts}
use Rattle.stim_text.specs.Stimulus.{Stimulus}
use Rattle.sim_core.specs.Leaves.{registers_of}
use Rattle.sim_core.specs.Given.{HaveWidths}
use Rattle.sim_core.specs.State.{one_more}
use Rattle.sim_hist.specs.Run.{registers_in}
use Rattle.sim_hist.specs.Kept.{more}
use Rattle.sim_hist.specs.Recalled.{Recalled, blank_recalled, noted_first, noted_near, noted, AreRecalled}
use Rattle.sim_hist.proofs.Running.{got}

-- ---- the rows of a list with one more

one_more_row : (P : ℕ → List Bits) (rows : List (List Bits)) (row : List Bits) → ((j : ℕ) → j < length rows → slice_index_or rows j [] ≡ P j) → row ≡ P (length rows)
    → (j : ℕ) → j < length (rows ++ row ∷ []) → slice_index_or (rows ++ row ∷ []) j [] ≡ P j
one_more_row P rows row each last j l =
    let long : length (rows ++ row ∷ []) ≡ length rows + 1 = length_push rows row in
    ⊎_elim
    (λ (m : j < length rows). get_or_append_left rows (row ∷ []) [] j m ∙ each j m)
    (λ (m : length rows ≤ j). let same : length rows ≡ j = omega arith in get_or_push rows row [] j same ∙ last ∙ ap P same)
    (cases_lt j (length rows))

-- ---- nothing is recalled

pub none_recalled : (net : NetParts) (s : Stimulus) (width cycles : ℕ) → width ≡ length (registers_of net.nodes) → cycles ≡ length s.rows → AreRecalled net s (blank_recalled width cycles)
none_recalled net s width cycles e f = record {
  long = f;
  wide = e;
  firsts_then = λ k l. absurd (omega arith);
  near_then = λ j l. absurd (omega arith);
  near_entered = λ l. absurd (omega arith);
}

-- another block is near, of which nothing is kept yet
pub moved_recalled : (net : NetParts) (s : Stimulus) (h : Recalled) (block : ℕ) → AreRecalled net s h → AreRecalled net s (record h { block = block; near = [] })
moved_recalled net s h block r = record {
  long = r.long;
  wide = r.wide;
  firsts_then = r.firsts_then;
  near_then = λ j l. absurd (omega arith);
  near_entered = λ l. absurd (omega arith);
}

-- ---- the registers of a cycle are noted

module _ (net : NetParts) (s : Stimulus) (t : ℕ) (rs : List Bits) (is_then : rs ≡ registers_in net s t) where
  pub record IsNoted (h : Recalled) : Type 0 where
    pub recalled : AreRecalled net s h
    pub entered : t < 256 * length h.firsts

  first_by : (h : Recalled) (b : Bool) → (t / 256 == length h.firsts && t % 256 == 0) ≡ b → (b ≡ false → t < 256 * length h.firsts) → AreRecalled net s h
      → IsNoted (if b then record h { firsts = h.firsts ++ rs ∷ [] } else h)
  first_by h false e below r = record { recalled = r; entered = below refl }
  first_by h true e below r =
      let both = both_true (t / 256 == length h.firsts) (t % 256 == 0) e in
      let block : t / 256 ≡ length h.firsts = eqb-true (t / 256) (length h.firsts) both.0 in
      let first : t % 256 ≡ 0 = eqb-true (t % 256) 0 both.1 in
      let place : t ≡ 256 * length h.firsts = omega arith in
      let long : length (h.firsts ++ rs ∷ []) ≡ length h.firsts + 1 = length_push h.firsts rs in
      record {
        recalled = record {
          long = r.long;
          wide = r.wide;
          firsts_then = one_more_row (λ k. registers_in net s (256 * k)) h.firsts rs r.firsts_then (is_then ∙ ap (registers_in net s) place);
          near_then = r.near_then;
          near_entered = λ l. let before : h.block < length h.firsts = r.near_entered l in omega arith;
        };
        entered = omega arith;
      }

  near_by : (h : Recalled) (b : Bool) → (t / 256 == h.block && t % 256 == length h.near) ≡ b → t < 256 * length h.firsts → AreRecalled net s h
      → IsNoted (if b then record h { near = h.near ++ rs ∷ [] } else h)
  near_by h false e entered r = record { recalled = r; entered = entered }
  near_by h true e entered r =
      let both = both_true (t / 256 == h.block) (t % 256 == length h.near) e in
      let block : t / 256 ≡ h.block = eqb-true (t / 256) h.block both.0 in
      let next : t % 256 ≡ length h.near = eqb-true (t % 256) (length h.near) both.1 in
      let place : t ≡ 256 * h.block + length h.near = omega arith in
      record {
        recalled = record {
          long = r.long;
          wide = r.wide;
          firsts_then = r.firsts_then;
          near_then = one_more_row (λ j. registers_in net s (256 * h.block + j)) h.near rs r.near_then (is_then ∙ ap (registers_in net s) place);
          near_entered = λ l. omega arith;
        };
        entered = entered;
      }

  -- a cycle up to the end of the blocks that were entered is in one of them, unless it begins the next
  below_end : (h : Recalled) → t ≤ 256 * length h.firsts → (t / 256 == length h.firsts && t % 256 == 0) ≡ false → t < 256 * length h.firsts
  below_end h l e = by_end (cases_lt t (256 * length h.firsts)) where
    at_end : t ≡ 256 * length h.firsts → t < 256 * length h.firsts
    at_end same =
        let block : t / 256 ≡ length h.firsts = omega arith in
        let first : t % 256 ≡ 0 = omega arith in
        absurd (true≢false (sym (ap₂ (λ a b. a && b) (eq-eqb (t / 256) (length h.firsts) block) (eq-eqb (t % 256) 0 first)) ∙ e))

    by_end : (t < 256 * length h.firsts) ⊎ (256 * length h.firsts ≤ t) → t < 256 * length h.firsts
    by_end (inl below) = below
    by_end (inr past) = at_end (let same : t ≡ 256 * length h.firsts = omega arith in same)

  pub noted_recalled : (h : Recalled) → t ≤ 256 * length h.firsts → AreRecalled net s h → IsNoted (noted t rs h)
  noted_recalled h l r =
      let first : IsNoted (noted_first t rs h) = first_by h (t / 256 == length h.firsts && t % 256 == 0) refl (below_end h l) r in
      near_by (noted_first t rs h) (t / 256 == (noted_first t rs h).block && t % 256 == length (noted_first t rs h).near) refl first.entered first.recalled

-- ---- what is found

got_within : {X : Type 0} (xs : List X) (k : ℕ) (x : X) → slice_get xs k ≡ Some x → k < length xs
got_within [] k x e = cc
got_within (y ∷ xs) zero x e = omega arith
got_within (y ∷ xs) (suc k) x e = let below : k < length xs = got_within xs k x e in omega arith

pub near_found : (net : NetParts) (s : Stimulus) (h : Recalled) (t : ℕ) (rs : List Bits) → AreRecalled net s h → t / 256 ≡ h.block → slice_get h.near (t % 256) ≡ Some rs → rs ≡ registers_in net s t
near_found net s h t rs r block at =
    let within : t % 256 < length h.near = got_within h.near (t % 256) rs at in
    let place : 256 * h.block + t % 256 ≡ t = omega arith in
    got h.near (t % 256) rs [] at ∙ r.near_then (t % 256) within ∙ ap (registers_in net s) place

pub near_in : (net : NetParts) (s : Stimulus) (h : Recalled) (t : ℕ) (rs : List Bits) → AreRecalled net s h → t / 256 ≡ h.block → slice_get h.near (t % 256) ≡ Some rs → t < 256 * length h.firsts
near_in net s h t rs r block at =
    let within : t % 256 < length h.near = got_within h.near (t % 256) rs at in
    let entered : h.block < length h.firsts = r.near_entered (let some : 0 < length h.near = omega arith in some) in
    omega arith

pub first_found : (net : NetParts) (s : Stimulus) (h : Recalled) (k : ℕ) (rs : List Bits) → AreRecalled net s h → slice_get h.firsts k ≡ Some rs → rs ≡ registers_in net s (256 * k)
first_found net s h k rs r at = got h.firsts k rs [] at ∙ r.firsts_then k (got_within h.firsts k rs at)

-- ---- rows that lie in vectors

pub long_rows : (rows : List (Vec Bits Global)) (width n : ℕ) → All (λ (row : List Bits). length row ≡ width) (map (λ (row : Vec Bits Global). row.items) rows) → n ≡ width
    → (k : ℕ) (d : Vec Bits Global) → k < length rows → length (slice_index_or rows k d).items ≡ n
long_rows rows width n wide e k d l =
    let within : k < length (map (λ (row : Vec Bits Global). row.items) rows) = omega (arith, length-map rows (λ (row : Vec Bits Global). row.items)) in
    ap length (sym (get_or-map (λ (row : Vec Bits Global). row.items) rows k d [] l)) ∙ wide k [] within ∙ sym e

-- ---- settles

pub first_more : (n before after : ℕ) → after ≡ one_more before → n ≡ 1 → after ≡ more n before
first_more n before after e f = e ∙ sym (ap (λ k. more k before) f)

pub next_more : (n m before mid after : ℕ) → mid ≡ more m before → after ≡ one_more mid → n ≡ m + 1 → after ≡ more n before
next_more n m before mid after e f g = f ∙ ap one_more e ∙ sym (ap (λ k. more k before) (let s : n ≡ suc m = omega arith in s))

-- values of these widths are as many
pub have_length : (os : List tree.Origin) (values : List Bits) → HaveWidths os values → length values ≡ length os
have_length os values e = sym (length-map values (λ (b : Bits). b.width)) ∙ ap length e ∙ length-map os origin_width
