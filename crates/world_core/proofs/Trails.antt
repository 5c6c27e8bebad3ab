-- Worlds that differ in nothing that can be seen have one trail.
use Rattle.std.proofs.Common.{◌≡◌, ℕ, suc, ◌+◌, ◌<◌, List, [], ◌∷◌, ◌++◌, codes, Some, inl, inr, sym, ap, ap₂, ◌∙◌, arith}
use Rattle.std.specs.Prelude.{slice_get, slice_index_or}
use Rattle.std.specs.List.{enumerate_from, flat_map}
use Rattle.std.specs.Fmt.{decimal}
use Rattle.std.proofs.lemmas.Option.{slice_get_within}
use Rattle.exec_core.specs.Block.{Name}
use Rattle.list_core.specs.Lists.{IsIn, from}
use Rattle.world_core.specs.World.{Shown, Shows, World, place_text, shown_text, gen_text, name_text, path_in, trail_line, position_text, cycle_text, AreSame, SameTrails}
use Rattle.list_core.proofs.Listing.{flat_map_same, from_in}

-- an element of a numbered list stands at its number
pub numbered_at : {A : Type 0} (n : ℕ) (xs : List A) (q : ℕ × A) → IsIn q (enumerate_from n xs) → (k : ℕ) × ((q.0 ≡ n + k) × (slice_get xs k ≡ Some q.1))
numbered_at n [] q i = absurd i
numbered_at n (x ∷ xs) q (inl e) = (0, (ap (λ (p : ℕ × _). p.0) e ∙ (let z : n ≡ n + 0 = omega arith in z), sym (ap (λ (p : ℕ × _). Some p.1) e)))
numbered_at n (x ∷ xs) q (inr i) =
    let found = numbered_at (n + 1) xs q i in
    (suc found.0, (found.1.0 ∙ (let z : n + 1 + found.0 ≡ n + suc found.0 = omega arith in z), found.1.1))

names_same : (f g : Name → Shown) (names : List Name) → ((x : Name) → IsIn x names → f x ≡ g x) → flat_map (name_text f) names ≡ flat_map (name_text g) names
names_same f g names h = flat_map_same (name_text f) (name_text g) names (λ x i. ap (λ sh. codes " " ++ x ++ codes "=" ++ shown_text sh) (h x i))

module _ (v w : World) (h : AreSame v w) (t : ℕ) (inside : t < w.cycles) where
  line_same : (k i : ℕ) (shows : Shows) → slice_get w.slots k ≡ Some shows → IsIn i (w.threads t k)
      → trail_line t shows (path_in v i) (v.shown t k i) ≡ trail_line t shows (path_in w i) (w.shown t k i)
  line_same k i shows at thread =
      ap₂ (λ (p rest : List ℕ). decimal t ++ codes " " ++ place_text shows.line ++ codes " " ++ p ++ flat_map gen_text shows.gens ++ rest ++ codes "\n")
      (ap (λ paths. slice_index_or paths i (codes "")) h.paths)
      (names_same (v.shown t k i) (w.shown t k i) shows.names (λ x j. h.shown t k i x inside thread (record { shows = shows; slot = at; name = j })))

  position_same : (q : ℕ × Shows) → IsIn q (enumerate_from 0 w.slots) → position_text v t q ≡ position_text w t q
  position_same q i =
      let found = numbered_at 0 w.slots q i in
      let number : q.0 ≡ found.0 = found.1.0 ∙ (let z : 0 + found.0 ≡ found.0 = omega arith in z) in
      let at : slice_get w.slots q.0 ≡ Some q.1 = ap (slice_get w.slots) number ∙ found.1.1 in
      ap (flat_map (λ j. trail_line t q.1 (path_in v j) (v.shown t q.0 j))) (h.threads t q.0 inside (slice_get_within w.slots q.0 q.1 at))
      ∙ flat_map_same (λ j. trail_line t q.1 (path_in v j) (v.shown t q.0 j)) (λ j. trail_line t q.1 (path_in w j) (w.shown t q.0 j)) (w.threads t q.0) (λ j m. line_same q.0 j q.1 at m)

  cycle_same : cycle_text v t ≡ cycle_text w t
  cycle_same = ap (λ slots. flat_map (position_text v t) (enumerate_from 0 slots)) h.slots ∙ flat_map_same (position_text v t) (position_text w t) (enumerate_from 0 w.slots) position_same

pub same_trails : SameTrails
same_trails v w h =
    ap (λ n. flat_map (cycle_text v) (from 0 n)) h.cycles
    ∙ flat_map_same (cycle_text v) (cycle_text w) (from 0 w.cycles) (λ t i. cycle_same v w h t (let below = (from_in 0 w.cycles t i).1 in omega arith))
