-- What drives signals, put beside their numbers.
use Rattle.std.proofs.Common.{◌≡◌, ℕ, ◌+◌, ◌<◌, zero, suc, Bool, true, false, ◌||◌, List, ◌++◌, take, get_or, [], ◌∷◌, length, Option, Some, None, ◌⊎◌, inl, inr, ⊎_elim, refl, sym, ap, ◌∙◌, subst, arith}
use Rattle.std.specs.Prelude.{slice_get, bytes_eq, option_map}
use Rattle.std.specs.Borrow.{Bor}
use Rattle.std.proofs.lemmas.List.{map_push, length-set}
use Rattle.std.proofs.lemmas.Slice.Eq.{bytes_eq-Decides}
use Rattle.std.proofs.Math.ListN.{set}
use Rattle.std.proofs.lemmas.Option.{same_Some, slice_get_within, slice_get_read, get_or_from_slice_get, none-some}
use Rattle.exec_core.specs.Block.{Name, own}
use Rattle.exec_core.specs.Whole.{Place}
use Rattle.exec_core.specs.Design.{Process, place}
use Rattle.design_core.specs.Design as design
use Rattle.design_exec.specs.Processes.{process, signals_in, blocks_in}
use Rattle.names.specs.Known.{has}
use Rattle.place_core.specs.Assigned.{names_at}
use Rattle.place_core.specs.Numbering.{Numbers, number_in}
use Rattle.ssa_core.specs.declared.link.Link.{Link}
use Rattle.ssa_core.specs.declared.process.ProcessKey.{ProcessKey}
use Rattle.ssa_core.specs.declared.drive.Drive.{Drive}
use Rattle.ssa_core.specs.declared.drive.Drive.TheVariants as drives
use Rattle.ssa_core.specs.Links.{link_as}
use Rattle.ssa_core.specs.Drives.{AreApart, DrivesPlace, HasDrive, IsDriven, AreSound, AreDrives, Grows, Covers, IsDrivenBy, LinksBefore, ProcessesBefore, put_at}
use Rattle.ssa_core.proofs.Places.{get_set_same, get_set_other, same_or_not}
use Rattle.list_core.proofs.Growing.{more_of}

module _ (d : design.Design) (links : List Link) (keys : List ProcessKey) (all : List Numbers) where
  pub grows_none : (list : List (Option Drive)) → Grows d links keys all list list
  grows_none list = record { long = refl; sound = λ s. s; kept = λ p h. h }

  pub grows_more : (a b c : List (Option Drive)) → Grows d links keys all a b → Grows d links keys all b c → Grows d links keys all a c
  grows_more a b c g h = record { long = h.long ∙ g.long; sound = λ s. h.sound (g.sound s); kept = λ p x. h.kept p (g.kept p x) }

  put_found : (list : List (Option Drive)) (n : ℕ) (drive : Drive) → n < length list → HasDrive (set list n (Some drive)) n
  put_found list n drive h = record { drive = drive; found = get_set_same list n (Some drive) h }

  pub put_grows : (list : List (Option Drive)) → AreApart (length list) all → (q : Place) (drive : Drive) → DrivesPlace d links keys q drive → Grows d links keys all list (put_at (number_in all q) drive list)
  put_grows list apart q drive does = by_number (number_in all q) refl
    where
      set_sound : (n : ℕ) → number_in all q ≡ Some n → AreSound d links keys all list → AreSound d links keys all (set list n (Some drive))
      set_sound n is s p m e at found = ⊎_elim here there (same_or_not m n)
        where
          here : m ≡ n → DrivesPlace d links keys p e
          here same =
              let same_place : q ≡ p = apart.apart q p n is (at ∙ ap (λ k. Some k) same) in
              let is_it : Some drive ≡ Some e = same_Some (Some drive) (Some e) (sym (get_set_same list n (Some drive) (apart.below q n is)) ∙ ap (slice_get (set list n (Some drive))) (sym same) ∙ found) in
              let first : DrivesPlace d links keys q e = subst (DrivesPlace d links keys q) (same_Some drive e is_it) does in
              subst (λ r. DrivesPlace d links keys r e) same_place first

          there : (m ≡ n → ⊥) → DrivesPlace d links keys p e
          there other = s p m e at (sym (get_set_other list n m (Some drive) other) ∙ found)

      set_kept : (n : ℕ) → number_in all q ≡ Some n → (p : Place) → IsDriven all list p → IsDriven all (set list n (Some drive)) p
      set_kept n is p has m at = ⊎_elim here there (same_or_not m n)
        where
          here : m ≡ n → HasDrive (set list n (Some drive)) m
          here same = subst (HasDrive (set list n (Some drive))) (sym same) (put_found list n drive (apart.below q n is))

          there : (m ≡ n → ⊥) → HasDrive (set list n (Some drive)) m
          there other = let h = has m at in record { drive = h.drive; found = get_set_other list n m (Some drive) other ∙ h.found }

      by_number : (o : Option ℕ) → number_in all q ≡ o → Grows d links keys all list (put_at o drive list)
      by_number None e = grows_none list
      by_number (Some n) e = record { long = length-set list n (Some drive); sound = set_sound n e; kept = set_kept n e }

  pub put_drives : (list : List (Option Drive)) → AreApart (length list) all → (q : Place) (drive : Drive) → IsDriven all (put_at (number_in all q) drive list) q
  put_drives list apart q drive n e =
      subst (λ (o : Option ℕ). HasDrive (put_at o drive list) n) (sym e) (put_found list n drive (apart.below q n e))

  -- the length stays, so numbers stay apart
  pub still_apart : (a b : List (Option Drive)) → Grows d links keys all a b → AreApart (length a) all → AreApart (length b) all
  still_apart a b g h = subst (λ (n : ℕ). AreApart n all) (sym g.long) h

  -- a number is within
  pub within : (list : List (Option Drive)) → AreApart (length list) all → (q : Place) (number : Option ℕ) → number ≡ number_in all q → (n : ℕ) → number ≡ Some n → n < length list
  within list apart q number is n e = apart.below q n (sym is ∙ e)

  -- ---- links

  pub link_step : (start list new : List (Option Drive)) (i k : ℕ) (link : Link) (number : Option ℕ) → AreApart (length start) all → Grows d links keys all start list → LinksBefore links all i list →
      i < length links → link ≡ get_or links i link → k ≡ i → number ≡ number_in all (link_as link).0 → new ≡ put_at number (drives.Link k) list → Grows d links keys all start new × LinksBefore links all (i + 1) new
  link_step start list new i k link number apart grows before below at same is put =
      (grows_more start list new grows now, each)
    where
      there : slice_get links i ≡ Some link
      there = slice_get_read links (length links) i link refl below at

      put_is : put_at (number_in all (link_as link).0) (drives.Link i) list ≡ new
      put_is = ap (λ o. put_at o (drives.Link i) list) (sym is) ∙ ap (λ n. put_at number (drives.Link n) list) (sym same) ∙ sym put

      here : AreApart (length list) all
      here = still_apart start list grows apart

      now : Grows d links keys all list new
      now = subst (Grows d links keys all list) put_is (put_grows list here (link_as link).0 (drives.Link i) (record { link = link; found = there; target = refl }))

      this : IsDriven all new (link_as link).0
      this = subst (λ l. IsDriven all l (link_as link).0) put_is (put_drives list here (link_as link).0 (drives.Link i))

      each : LinksBefore links all (i + 1) new
      each j other lt found = ⊎_elim last earlier (same_or_not j i)
        where
          last : j ≡ i → IsDriven all new (link_as other).0
          last e = subst (λ l. IsDriven all new (link_as l).0) (same_Some link other (sym there ∙ ap (slice_get links) (sym e) ∙ found)) this

          earlier : (j ≡ i → ⊥) → IsDriven all new (link_as other).0
          earlier ne = now.kept (link_as other).0 (before j other (omega (arith, lt, ne)) found)

  -- ---- names

  or_cases : (a b : Bool) → (a || b) ≡ true → (a ≡ true) ⊎ (b ≡ true)
  or_cases true b e = inl refl
  or_cases false b e = inr e

  has_more : (names : List Name) (y x : Name) → has (names ++ y ∷ []) x ≡ true → (has names x ≡ true) ⊎ (x ≡ y)
  has_more [] y x e = ⊎_elim (λ h. inr ((bytes_eq-Decides x y).0 h)) (λ h. let both : false ≡ true = h in cc) (or_cases (bytes_eq x y) false e)
  has_more (z ∷ names) y x e = ⊎_elim (λ h. inl (left (bytes_eq x z) (has names x) h)) (λ h. ⊎_elim (λ g. inl (right (bytes_eq x z) (has names x) g)) (λ g. inr g) (has_more names y x h)) (or_cases (bytes_eq x z) (has (names ++ y ∷ []) x) e)
    where
      left : (a b : Bool) → a ≡ true → (a || b) ≡ true
      left true b e = refl
      left false b e = cc

      right : (a b : Bool) → b ≡ true → (a || b) ≡ true
      right true b e = refl
      right false b e = e

  pub name_step : (start list new : List (Option Drive)) (names : List (Bor Name)) (i p : ℕ) (y : Bor Name) (number : Option ℕ) (drive : Drive) → AreApart (length start) all →
      ((x : Name) → has (names_at names) x ≡ true → DrivesPlace d links keys (place p x) drive) →
      Covers d links keys all p (has (names_at (take i names))) start list → i < length names → y ≡ get_or names i y → number ≡ number_in all (place p y.now) → new ≡ put_at number drive list →
      has (names_at names) y.now ≡ true → Covers d links keys all p (has (names_at (take (i + 1) names))) start new
  name_step start list new names i p y number drive apart does covers below at is put among = record { grows = grows_more start list new covers.grows now; driven = each }
    where
      put_is : put_at (number_in all (place p y.now)) drive list ≡ new
      put_is = ap (λ o. put_at o drive list) (sym is) ∙ sym put

      here : AreApart (length list) all
      here = still_apart start list covers.grows apart

      now : Grows d links keys all list new
      now = subst (Grows d links keys all list) put_is (put_grows list here (place p y.now) drive (does y.now among))

      this : IsDriven all new (place p y.now)
      this = subst (λ l. IsDriven all l (place p y.now)) put_is (put_drives list here (place p y.now) drive)

      more : names_at (take (i + 1) names) ≡ names_at (take i names) ++ y.now ∷ []
      more = ap names_at (more_of names i y below at) ∙ map_push (λ (r : Bor Name). r.now) (take i names) y

      each : (x : Name) → has (names_at (take (i + 1) names)) x ≡ true → IsDriven all new (place p x)
      each x e = ⊎_elim (λ h. now.kept (place p x) (covers.driven x h)) (λ h. subst (λ z. IsDriven all new (place p z)) (sym h) this)
          (has_more (names_at (take i names)) y.now x (sym (ap (λ l. has l x) more) ∙ e))

  -- a name at a place is among the names
  bytes_same : (x : Name) → bytes_eq x x ≡ true
  bytes_same x = (bytes_eq-Decides x x).1 refl

  or_first : (a b : Bool) → a ≡ true → (a || b) ≡ true
  or_first true b h = refl
  or_first false b h = cc

  or_second : (a b : Bool) → b ≡ true → (a || b) ≡ true
  or_second true b h = refl
  or_second false b h = h

  pub has_at : (names : List (Bor Name)) (i : ℕ) (y : Bor Name) → slice_get names i ≡ Some y → has (names_at names) y.now ≡ true
  has_at [] i y e = absurd (none-some y e)
  has_at (z ∷ names) zero y e = or_first (bytes_eq y.now z.now) (has (names_at names) y.now) (subst (λ (w : Bor Name). bytes_eq y.now w.now ≡ true) (sym (same_Some z y e)) (bytes_same y.now))
  has_at (z ∷ names) (suc k) y e = or_second (bytes_eq y.now z.now) (has (names_at names) y.now) (has_at names k y e)

  -- ---- processes

  -- the process of a key, by its block
  pub process_drives : (k : ℕ) (key : ProcessKey) (block : design.Block) (names : List (Bor Name)) → slice_get keys k ≡ Some key → slice_get (blocks_in d key.variant) key.block ≡ Some block →
      has (names_at names) ≡ own (process key.instance (signals_in d key.variant) block).body → (x : Name) → has (names_at names) x ≡ true → DrivesPlace d links keys (place key.instance x) (drives.Process k)
  process_drives k key block names found at own_are x e = record {
    key = key;
    found = found;
    process = process key.instance (signals_in d key.variant) block;
    is = ap (option_map (process key.instance (signals_in d key.variant))) at;
    instance = refl;
    owns = sym (ap (λ (f : Name → Bool). f x) own_are) ∙ e;
  }

  pub process_driven : (key : ProcessKey) (block : design.Block) (names : List (Bor Name)) (list : List (Option Drive)) → slice_get (blocks_in d key.variant) key.block ≡ Some block →
      has (names_at names) ≡ own (process key.instance (signals_in d key.variant) block).body → ((x : Name) → has (names_at names) x ≡ true → IsDriven all list (place key.instance x)) → IsDrivenBy d all key list
  process_driven key block names list at own_are covered b is x owned = subst (λ (c : Process). IsDriven all list (place c.instance x)) same (covered x (ap (λ (f : Name → Bool). f x) own_are ∙ subst (λ (c : Process). own c.body x ≡ true) (sym same) owned))
    where
      same : process key.instance (signals_in d key.variant) block ≡ b
      same = same_Some (process key.instance (signals_in d key.variant) block) b (sym (ap (option_map (process key.instance (signals_in d key.variant))) at) ∙ is)

  pub no_process : (key : ProcessKey) (list : List (Option Drive)) → slice_get (blocks_in d key.variant) key.block ≡ None → IsDrivenBy d all key list
  no_process key list at b is x owned = absurd (none-some b (sym (ap (option_map (process key.instance (signals_in d key.variant))) at) ∙ is))

  pub process_step : (start list new : List (Option Drive)) (i : ℕ) (key : ProcessKey) → Grows d links keys all start list → ProcessesBefore d keys all i list → i < length keys → key ≡ get_or keys i key →
      Grows d links keys all list new → IsDrivenBy d all key new → Grows d links keys all start new × ProcessesBefore d keys all (i + 1) new
  process_step start list new i key grows before below at now this = (grows_more start list new grows now, each)
    where
      there : slice_get keys i ≡ Some key
      there = slice_get_read keys (length keys) i key refl below at

      each : ProcessesBefore d keys all (i + 1) new
      each j other lt found = ⊎_elim last earlier (same_or_not j i)
        where
          last : j ≡ i → IsDrivenBy d all other new
          last e = subst (λ k. IsDrivenBy d all k new) (same_Some key other (sym there ∙ ap (slice_get keys) (sym e) ∙ found)) this

          earlier : (j ≡ i → ⊥) → IsDrivenBy d all other new
          earlier ne b is x owned = now.kept (place b.instance x) (before j other (omega (arith, lt, ne)) found b is x owned)

  pub none_sound : (list : List (Option Drive)) → ((n : ℕ) → get_or list n None ≡ None) → AreSound d links keys all list
  none_sound list none p n drive at found = absurd (none-some drive (sym (none n) ∙ get_or_from_slice_get list n (Some drive) None found))

  pub all_driven : (start first last : List (Option Drive)) → ((n : ℕ) → get_or start n None ≡ None) → Grows d links keys all start first → LinksBefore links all (length links) first →
      Grows d links keys all first last → ProcessesBefore d keys all (length keys) last → AreDrives d links keys (length start) all last
  all_driven start first last none g before h after = record {
    long = h.long ∙ g.long;
    sound = h.sound (g.sound (none_sound start none));
    by_link = λ l link found. h.kept (link_as link).0 (before l link (slice_get_within links l link found) found);
    by_process = λ k key found. after k key (slice_get_within keys k key found) found;
  }
