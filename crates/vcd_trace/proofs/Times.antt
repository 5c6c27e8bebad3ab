-- The times of changes, one change after another, and the changes not later than a time.
use Rattle.std.proofs.Common.{◌≡◌, ℕ, zero, suc, ◌+◌, ◌-◌, ◌<◌, ◌≤◌, ◌==◌, ◌||◌, ◌&&◌, Bool, true, false, not, cond, List, [], ◌∷◌, ◌++◌, length, get_or, take, nat_lt, nat_le, refl, sym, ap, ap₂, ◌∙◌, subst, arith, eqb-true}
use Rattle.std.specs.List.{filter}
use Rattle.std.proofs.lemmas.Bool.Decides.{nat_tests}
use Rattle.std.proofs.lemmas.List.{take_more, append-nil, map-append, length-append}
use Rattle.std.proofs.lemmas.List.Elements.{filter-append}
use Rattle.vcd_read.specs.Head.{Var}
use Rattle.vcd_read.specs.Changes.{Change}
use Rattle.vcd_read.specs.Kept.{IsVcd}
use Rattle.vcd_read.specs.Meaning.{Meaning}
use Rattle.vcd_samples.specs.Samples.{before, up_to, is_rise, times_behind, times_of}
use Rattle.vcd_trace.specs.Kept.{no_change, change_at, Divides, AreFirst, is_first, is_rise_place, times_at}

-- a time is not later where it is before the next
not_later : (a b : ℕ) → nat_lt a (b + 1) ≡ nat_le a b
not_later a b = grind (arith, nat_tests)

pub up_to_before : (time : ℕ) (changes : List Change) → before (time + 1) changes ≡ up_to time changes
up_to_before time [] = refl
up_to_before time (change ∷ changes) =
    ap₂ (λ (b : Bool) (rest : List Change). cond b (change ∷ rest) rest) (not_later change.time time) (up_to_before time changes)

-- the time of the last change, or this one where there is none
abbrev last_time : ℕ → List Change → ℕ
last_time time [] = time
last_time time (change ∷ changes) = last_time change.time changes

behind_by : (b : Bool) (time : ℕ) (x y : Change) (xs ts : List Change) → (y.time == time) ≡ b
    → times_behind time ts ≡ times_behind time xs ++ cond (x.time == last_time time xs) [] (x.time ∷ [])
    → times_behind y.time ts ≡ times_behind y.time xs ++ cond (x.time == last_time y.time xs) [] (x.time ∷ [])
    → cond b (times_behind time ts) (y.time ∷ times_behind y.time ts) ≡ cond b (times_behind time xs) (y.time ∷ times_behind y.time xs) ++ cond (x.time == last_time y.time xs) [] (x.time ∷ [])
behind_by true time x y xs ts e h k = h ∙ ap (λ (t : ℕ). times_behind time xs ++ cond (x.time == last_time t xs) [] (x.time ∷ [])) (sym (eqb-true _ _ e))
behind_by false time x y xs ts e h k = ap (λ (rest : List ℕ). y.time ∷ rest) k

behind-push : (time : ℕ) (xs : List Change) (x : Change) → times_behind time (xs ++ x ∷ []) ≡ times_behind time xs ++ cond (x.time == last_time time xs) [] (x.time ∷ [])
behind-push time [] x = refl
behind-push time (y ∷ xs) x = behind_by (y.time == time) time x y xs (xs ++ x ∷ []) refl (behind-push time xs x) (behind-push y.time xs x)

last_is : (time : ℕ) (xs : List Change) (k : ℕ) → k < length xs → last_time time (take (suc k) xs) ≡ (change_at xs k).time
last_is time [] k l = absurd (omega arith)
last_is time (x ∷ xs) zero l = refl
last_is time (x ∷ xs) (suc k) l = last_is x.time xs k (omega arith)

not_zero : (n : ℕ) → (suc n == 0) ≡ false
not_zero n = grind (arith, nat_tests)

turned : (b : Bool) (ts : List ℕ) → cond b [] ts ≡ cond (not b) ts []
turned true ts = refl
turned false ts = refl

pushed : (changes : List Change) (place : ℕ) → place < length changes
    → times_of (take place changes ++ change_at changes place ∷ []) ≡ times_of (take place changes) ++ cond (is_first changes place) ((change_at changes place).time ∷ []) []
pushed [] place l = absurd (omega arith)
pushed (x ∷ xs) zero l = refl
pushed (x ∷ xs) (suc place) l =
    let gone : suc place - 1 ≡ place = omega arith in
    let last : last_time x.time (take place xs) ≡ (change_at (x ∷ xs) (suc place - 1)).time =
    before_it x xs place (omega arith) ∙ ap (λ (k : ℕ). (change_at (x ∷ xs) k).time) (sym gone) in
    ap (λ (rest : List ℕ). x.time ∷ rest) (behind-push x.time (take place xs) (change_at xs place)
    ∙ ap (λ (t : ℕ). times_behind x.time (take place xs) ++ cond ((change_at xs place).time == t) [] ((change_at xs place).time ∷ [])) last
    ∙ ap (λ (ts : List ℕ). times_behind x.time (take place xs) ++ ts) (turned ((change_at xs place).time == (change_at (x ∷ xs) (suc place - 1)).time) ((change_at xs place).time ∷ [])
    ∙ ap (λ (b : Bool). cond (b || not ((change_at xs place).time == (change_at (x ∷ xs) (suc place - 1)).time)) ((change_at xs place).time ∷ []) []) (sym (not_zero place))))
  where
    before_it : (x : Change) (xs : List Change) (k : ℕ) → k < length xs → last_time x.time (take k xs) ≡ (change_at (x ∷ xs) k).time
    before_it x xs zero m = refl
    before_it x xs (suc k) m = last_is x.time xs k (omega arith)

pub times_more : (changes : List Change) (place : ℕ) → place < length changes
    → times_of (take (place + 1) changes) ≡ times_of (take place changes) ++ cond (is_first changes place) ((change_at changes place).time ∷ []) []
times_more changes place l = ap times_of (take_more changes place no_change l) ∙ pushed changes place l

-- ---- the rises

kept_by : (first rise : Bool) (time : ℕ) → cond first (cond rise (time ∷ []) []) [] ≡ cond (first && rise) (time ∷ []) []
kept_by true rise time = refl
kept_by false rise time = refl

filtered : (test : ℕ → Bool) (first : Bool) (time : ℕ) → filter test (cond first (time ∷ []) []) ≡ cond first (cond (test time) (time ∷ []) []) []
filtered test true time = refl
filtered test false time = refl

rises_more : (changes : List Change) (clock : Var) (place : ℕ) → place < length changes
    → filter (is_rise changes clock) (times_of (take (place + 1) changes)) ≡ filter (is_rise changes clock) (times_of (take place changes)) ++ cond (is_rise_place changes clock place) ((change_at changes place).time ∷ []) []
rises_more changes clock place l =
    let time = (change_at changes place).time in
    ap (filter (is_rise changes clock)) (times_more changes place l)
    ∙ filter-append (is_rise changes clock) (times_of (take place changes)) (cond (is_first changes place) (time ∷ []) [])
    ∙ ap (λ (ts : List ℕ). filter (is_rise changes clock) (times_of (take place changes)) ++ ts)
    (filtered (is_rise changes clock) (is_first changes place) time ∙ kept_by (is_first changes place) (is_rise changes clock time) time)

-- so many of these places have changes before the time of each change from a place on
pub record AreClockPassed (changes : List Change) (places : List ℕ) (front place : ℕ) : Type 0 where
  pub within : front ≤ length places
  pub early : (k p : ℕ) → k < front → place ≤ p → p < length changes → (change_at changes (get_or places k 0)).time < (change_at changes p).time

-- of the changes in front of a place, the places of those that are the first of a time at which the clock rises
pub record RisesWalked (changes : List Change) (clock : Var) (places : List ℕ) (front place : ℕ) (rises : List ℕ) : Type 0 where
  pub count : length rises ≤ place
  pub first : AreFirst changes rises
  pub passed : AreClockPassed changes places front place
  pub times : times_at changes rises ≡ filter (is_rise changes clock) (times_of (take place changes))

put_by : (rise : Bool) (changes : List Change) (place : ℕ) (places : List ℕ) → times_at changes (places ++ cond rise (place ∷ []) []) ≡ times_at changes places ++ cond rise ((change_at changes place).time ∷ []) []
put_by true changes place places = map-append (λ (p : ℕ). (change_at changes p).time) places (place ∷ [])
put_by false changes place places = map-append (λ (p : ℕ). (change_at changes p).time) places []

module _ (Good : ℕ → Type 0) where
  abbrev AreGood : List ℕ → Type 0
  AreGood places = (t : ℕ) → t < length places → Good (get_or places t 0)

  good_push : (place : ℕ) → Good place → (places : List ℕ) → AreGood places → AreGood (places ++ place ∷ [])
  good_push place good [] all zero l = good
  good_push place good [] all (suc t) l = absurd (omega arith)
  good_push place good (p ∷ places) all zero l = all 0 (omega arith)
  good_push place good (p ∷ places) all (suc t) l = good_push place good places (λ k m. all (suc k) (omega arith)) t (omega arith)

  good_by : (rise : Bool) (place : ℕ) → (rise ≡ true → Good place) → (places : List ℕ) → AreGood places → AreGood (places ++ cond rise (place ∷ []) [])
  good_by true place good places all = good_push place (good refl) places all
  good_by false place good places all = subst (λ (ps : List ℕ). AreGood ps) (sym (append-nil places)) all

count_by : (rise : Bool) (place : ℕ) (places : List ℕ) → length (places ++ cond rise (place ∷ []) []) ≤ length places + 1
count_by true place places = let n = length-append places (place ∷ []) in omega (arith, n)
count_by false place places = let n = ap length (append-nil places) in omega (arith, n)

left : (b c : Bool) → (b && c) ≡ true → b ≡ true
left true c e = refl
left false c e = cc

-- one change more
module _ (m : Meaning) (kept : IsVcd m) (clock : Var) (places : List ℕ) (front old place : ℕ) (rises : List ℕ) (within : place < length m.changes)
    (divides : Divides m.changes places (change_at m.changes place).time front) (walked : RisesWalked m.changes clock places old place rises) where
  passed : AreClockPassed m.changes places front (place + 1)
  passed = record {
    within = divides.within;
    early = λ k p f o w. let before = divides.early k f in let next = kept.rising place p no_change (omega (arith, o)) w in omega (arith, before, next);
  }

  pub walked_on : (rise : Bool) → rise ≡ is_rise_place m.changes clock place → RisesWalked m.changes clock places front (place + 1) (rises ++ cond rise (place ∷ []) [])
  walked_on rise is = record {
    count = (let most = count_by rise place rises in let had = walked.count in omega (arith, most, had));
    first = record {
      within = good_by (λ (p : ℕ). p < length m.changes) rise place (λ e. within) rises walked.first.within;
      first = good_by (λ (p : ℕ). is_first m.changes p ≡ true) rise place (λ e. left (is_first m.changes place) (is_rise m.changes clock (change_at m.changes place).time) (sym is ∙ e)) rises walked.first.first;
    };
    passed = passed;
    times =
        put_by rise m.changes place rises
        ∙ ap₂ (λ (ts : List ℕ) (b : Bool). ts ++ cond b ((change_at m.changes place).time ∷ []) []) walked.times is
        ∙ sym (rises_more m.changes clock place within);
  }
