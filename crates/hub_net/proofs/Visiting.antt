-- The visits of clients, by the times that a link came.
use Rattle.std.proofs.Common.{arith, ◌≡◌, ◌≢◌, ◌≤◌, ◌+◌, true≢false, inl, inr, ℕ, zero, suc, Bool, true, false, List, [], ◌∷◌, ◌++◌, Option, Some, None, All, append_assoc, append-nil, drop, get_or, length, refl, sym, ◌∙◌, ap, subst, ◌<◌}
use Rattle.std.proofs.Math.Seq.{drop-cons}
use Rattle.std.proofs.lemmas.List.{drop_all, drop-drop}
use Rattle.std.proofs.lemmas.List.Elements.{All-nil, All-cons}
use Rattle.link_edge.specs.declared.answers.End.{End}
use Rattle.link_edge.specs.declared.answers.End.TheVariants.{Bye, Closed, Failed, NoMemory}
use Rattle.hub_core.specs.declared.served.ClientEnd.{ClientEnd}
use Rattle.hub_core.specs.HubJournals.{HubDeed, asks_of}
use Rattle.serve_net.specs.declared.visit.Visit.{Visit}
use Rattle.serve_net.specs.declared.visit.Visit.TheVariants.{NoLink, Linked}
use Rattle.serve_net.specs.Visits.{Told, HasLine, links_in, failures_in}
use Rattle.hub_net.specs.Came.{comings, failings}
use Rattle.hub_net.specs.Clients.{told_from, visit_for, next_visit, visits_in}
use Rattle.hub_net.specs.AtOnce.{AreUntold}

-- ---- the next client

pub told_len : (k : ℕ) (es : List ClientEnd) (deeds : List HubDeed) → length (told_from k es deeds) ≡ length es
unfolding told_from
told_len k [] deeds = refl
told_len k (e ∷ es) deeds = ap suc (told_len (suc k) es deeds)

unfoldable pub lasts : End → Bool
lasts Bye = true
lasts Closed = true
lasts Failed = true
lasts NoMemory = false

pub has_line : (end : End) → lasts end ≡ true → end ≢ NoMemory
unfolding lasts
has_line end l e = true≢false (sym l ∙ ap lasts e)

-- ---- all of them

-- the next client has a visit, or it is the first that has none
data Next (told : List Told) : Type 0 where
  comes : (end : End) (requests : ℕ) (rest : List Told) → told ≡ (end, requests) ∷ rest → visit_for told ≡ Some (Linked end requests) → lasts end ≡ true → Next told
  ends : (requests : ℕ) (rest : List Told) → told ≡ (NoMemory, requests) ∷ rest → visit_for told ≡ None → Next told
  over : told ≡ [] → visit_for told ≡ None → Next told

next : (told : List Told) → Next told
unfolding lasts
next [] = over refl refl
next ((Bye, n) ∷ rest) = comes Bye n rest refl refl refl
next ((Closed, n) ∷ rest) = comes Closed n rest refl refl refl
next ((Failed, n) ∷ rest) = comes Failed n rest refl refl refl
next ((NoMemory, n) ∷ rest) = ends n rest refl refl

pub all_have_lines : (came : List Bool) (told : List Told) → All HasLine (visits_in came told)
unfolding visits_in
all_have_lines [] told = All-nil HasLine
all_have_lines (false ∷ came) told = All-cons HasLine NoLink (visits_in came told) tt (all_have_lines came told)
all_have_lines (true ∷ came) told = elim (next told) [
  | comes end n rest is visit last ↦ subst (λ (v : Option Visit). All HasLine (next_visit v (visits_in came (drop 1 told)))) (sym visit) (All-cons HasLine (Linked end n) (visits_in came (drop 1 told)) (has_line end last) (all_have_lines came (drop 1 told)))
  | ends n rest is visit ↦ rw visit (All-nil HasLine)
  | over is visit ↦ rw visit (All-nil HasLine)
]

pub visits_within : (came : List Bool) (told : List Told) → length (visits_in came told) ≤ length came
unfolding visits_in
visits_within [] told = omega arith
visits_within (false ∷ came) told = omega (arith, visits_within came told)
visits_within (true ∷ came) told = elim (next told) [
  | comes end n rest is visit last ↦ rw visit (omega (arith, visits_within came (drop 1 told)))
  | ends n rest is visit ↦ rw visit (omega arith)
  | over is visit ↦ rw visit (omega arith)
]

-- what is told of clients is what their visits tell, and then what is not told
pub record Untold (told : List Told) (visits : List Visit) : Type 0 where
  pub untold : List Told
  pub is : told ≡ links_in visits ++ untold
  pub are : AreUntold untold

no_more : (told : List Told) → length told ≤ 0 → told ≡ []
no_more [] le = refl
no_more (t ∷ told) le = absurd (omega (arith, le))

pub untold_of : (came : List Bool) (told : List Told) → length told ≤ comings came → Untold told (visits_in came told)
unfolding visits_in comings links_in
untold_of [] told le = record { untold = []; is = no_more told le; are = inl refl }
untold_of (false ∷ came) told le = let rest = untold_of came told le in record { untold = rest.untold; is = rest.is; are = rest.are }
untold_of (true ∷ came) told le = elim (next told) [
  | comes end n rest is visit last ↦ rw is (
      let below : length rest ≤ comings came = let at : suc (length rest) ≤ suc (comings came) = rw is at le in omega (arith, at) in
      let more = untold_of came rest below in
      rw (rw is at visit) (record { untold = more.untold; is = ap (λ l. (end, n) ∷ l) more.is; are = more.are })
      )
  | ends n rest is visit ↦ rw visit (record { untold = told; is = refl; are = inr (n, rest, is) })
  | over is visit ↦ rw visit (record { untold = told; is = refl; are = inl is })
]

-- where there is a visit of each time, each link that came is among them
pub record Whole (came : List Bool) (visits : List Visit) : Type 0 where
  pub links : length (links_in visits) ≡ comings came
  pub failures : failures_in visits ≡ failings came

pub whole_of : (came : List Bool) (told : List Told) → length (visits_in came told) ≡ length came → Whole came (visits_in came told)
unfolding visits_in comings failings links_in failures_in
whole_of [] told e = record { links = refl; failures = refl }
whole_of (false ∷ came) told e =
    let rest = whole_of came told (omega (arith, e)) in
    record { links = rest.links; failures = omega (arith, rest.failures) }
whole_of (true ∷ came) told e = elim (next told) [
  | comes end n rest is visit last ↦ (
      let at : suc (length (visits_in came (drop 1 told))) ≡ suc (length came) = rw visit at e in
      let more = whole_of came (drop 1 told) (omega (arith, at)) in
      rw visit (record { links = ap suc more.links; failures = omega (arith, more.failures) })
      )
  | ends n rest is visit ↦ absurd (let at : 0 ≡ suc (length came) = rw visit at e in omega (arith, at))
  | over is visit ↦ absurd (let at : 0 ≡ suc (length came) = rw visit at e in omega (arith, at))
]

-- and where there is one of each client, all of them are told
none_behind : (links untold told : List Told) → told ≡ links ++ untold → length told ≡ length links → told ≡ links
none_behind [] untold told e len = no_more told (omega (arith, len))
none_behind (l ∷ links) untold [] e len = absurd (omega (arith, len))
none_behind (l ∷ links) untold (t ∷ told) e len =
    let heads : t ≡ l = cc in
    let tails : told ≡ links ++ untold = cc in
    λ k. heads k ∷ none_behind links untold told tails (omega (arith, len)) k

pub all_told : (came : List Bool) (told : List Told) → length (visits_in came told) ≡ length came → length told ≡ comings came → told ≡ links_in (visits_in came told)
all_told came told whole len =
    let some = untold_of came told (omega (arith, len)) in
    none_behind (links_in (visits_in came told)) some.untold told some.is (len ∙ sym (whole_of came told whole).links)

-- ---- step by step

-- a client in its place
pub told_at : (k i : ℕ) (es : List ClientEnd) (deeds : List HubDeed) (e : ClientEnd) → i < length es → get_or es i e ≡ e → drop i (told_from k es deeds) ≡ (e.end, length (asks_of (k + i) deeds)) ∷ drop (suc i) (told_from k es deeds)
unfolding told_from
told_at k i [] deeds e within is = absurd (omega (arith, within))
told_at k zero (x ∷ es) deeds e within is =
    let same : k ≡ k + 0 = omega arith in
    λ j. ((is j).end, length (asks_of (same j) deeds)) ∷ told_from (suc k) es deeds
told_at k (suc i) (x ∷ es) deeds e within is =
    let same : suc k + i ≡ k + suc i = omega arith in
    told_at (suc k) i es deeds e (omega (arith, within)) is ∙ ap (λ n. (e.end, length (asks_of n deeds)) ∷ drop (suc i) (told_from (suc k) es deeds)) same

-- and none behind the last
pub told_past : (i : ℕ) (es : List ClientEnd) (deeds : List HubDeed) → length es ≤ i → drop i (told_from 0 es deeds) ≡ []
told_past i es deeds past = drop_all i (told_from 0 es deeds) (omega (arith, past, told_len 0 es deeds))

-- what is told of it
pub visit_at : (end : End) (n : ℕ) (rest : List Told) → end ≢ NoMemory → visit_for ((end, n) ∷ rest) ≡ Some (Linked end n)
visit_at Bye n rest lasting = refl
visit_at Closed n rest lasting = refl
visit_at Failed n rest lasting = refl
visit_at NoMemory n rest lasting = absurd (lasting refl)

pub no_visit_at : (end : End) (n : ℕ) (rest : List Told) → end ≡ NoMemory → visit_for ((end, n) ∷ rest) ≡ None
no_visit_at end n rest is = ap (λ e. visit_for ((e, n) ∷ rest)) is

-- one time more, or none more
module _ (came : List Bool) (told : List Told) (i client : ℕ) (d : Bool) (visits all : List Visit) (within : i < length came) (was : visits ++ visits_in (drop i came) (drop client told) ≡ all) where
  here : (linked : Bool) → get_or came i d ≡ linked → drop i came ≡ linked ∷ drop (i + 1) came
  here linked is =
      let behind : suc i ≡ i + 1 = omega arith in
      drop-cons came i d within ∙ (λ j. is j ∷ drop (behind j) came)

  pub no_link_more : get_or came i d ≡ false → (visits ++ NoLink ∷ []) ++ visits_in (drop (i + 1) came) (drop client told) ≡ all
  unfolding visits_in
  no_link_more fails = append_assoc visits (NoLink ∷ []) _ ∙ ap (λ l. visits ++ l) (sym (ap (λ cs. visits_in cs (drop client told)) (here false fails))) ∙ was

  next_here : get_or came i d ≡ true → visits ++ next_visit (visit_for (drop client told)) (visits_in (drop (i + 1) came) (drop 1 (drop client told))) ≡ all
  unfolding visits_in
  next_here comes_in = ap (λ l. visits ++ l) (sym (ap (λ cs. visits_in cs (drop client told)) (here true comes_in))) ∙ was

  pub link_more : get_or came i d ≡ true → (visit : Visit) → Some visit ≡ visit_for (drop client told) → (visits ++ visit ∷ []) ++ visits_in (drop (i + 1) came) (drop (client + 1) told) ≡ all
  link_more comes_in visit found =
      append_assoc visits (visit ∷ []) _
      ∙ ap (λ l. visits ++ visit ∷ visits_in (drop (i + 1) came) l) (sym (drop-drop 1 client told))
      ∙ ap (λ (v : Option Visit). visits ++ next_visit v (visits_in (drop (i + 1) came) (drop 1 (drop client told)))) found
      ∙ next_here comes_in

  pub none_more : get_or came i d ≡ true → None ≡ visit_for (drop client told) → visits ≡ all
  none_more comes_in found =
      sym (append-nil visits)
      ∙ ap (λ (v : Option Visit). visits ++ next_visit v (visits_in (drop (i + 1) came) (drop 1 (drop client told)))) found
      ∙ next_here comes_in

pub visits_all : (came : List Bool) (told : List Told) (i client : ℕ) (visits all : List Visit) → length came ≤ i → visits ++ visits_in (drop i came) (drop client told) ≡ all → visits ≡ all
unfolding visits_in
visits_all came told i client visits all past was = sym (append-nil visits) ∙ ap (λ cs. visits ++ visits_in cs (drop client told)) (sym (drop_all i came past)) ∙ was
