-- Files are one list of sources, or are refused for one cause.
use Rattle.std.proofs.Common.{◌≡◌, ℕ, suc, ◌+◌, ◌<◌, List, [], ◌∷◌, Option, Some, Result, Ok, Err, length, add-zero, refl, sym, ap, ap₂, ◌∙◌, subst, arith}
use Rattle.std.specs.Prelude.{slice_get}
use Rattle.std.proofs.lemmas.Option.{slice_get_within}
use Rattle.gen_tree.specs.Tree.{Import, Source}
use Rattle.gen_text.specs.declared.TextFault.{TextFault}
use Rattle.gen_text.specs.Source.{Reads, IsCause}
use Rattle.gen_text.proofs.Answers.{one_answer}
use Rattle.project_read.specs.Names.{folder_of, numbered}
use Rattle.project_read.specs.Projects.{Contents, HasText, IsSourceOf, IsNoSource, AreReadOn, Refusal, Text, TooManyFiles, IsRefusedAt, IsProject}

some_one : {A : Type 0} (o : Option A) (x y : A) → o ≡ Some x → o ≡ Some y → x ≡ y
some_one o x y p q = let both : Some x ≡ Some y = sym p ∙ q in cc

module _ (files : Contents) (folder : List ℕ) where
  one_text : (names : List (List ℕ)) (file : ℕ) (x y : List ℕ) → HasText files names file x → HasText files names file y → x ≡ y
  one_text names file x y a b =
      let name : a.name ≡ b.name = some_one (slice_get names file) a.name b.name a.at b.at in
      some_one (files b.name) x y (subst (λ (n : List ℕ). files n ≡ Some x) name a.found) b.found

  one_source : (names : List (List ℕ)) (file : ℕ) (s t : Source) → IsSourceOf files names file s → IsSourceOf files names file t → s ≡ t
  one_source names file s t a b =
      (one_answer file b.text).one_reading s t (subst (λ (x : List ℕ). Reads file x s) (one_text names file a.text b.text a.has b.has) a.reads) b.reads

  not_both : (names : List (List ℕ)) (file : ℕ) (s : Source) (fault : TextFault) → IsSourceOf files names file s → IsNoSource files names file fault → ⊥
  not_both names file s fault a b =
      b.refuses ((one_answer file b.text).no_fault s fault (subst (λ (x : List ℕ). Reads file x s) (one_text names file a.text b.text a.has b.has) a.reads) b.cause)

  one_fault : (names : List (List ℕ)) (file : ℕ) (f g : TextFault) → IsNoSource files names file f → IsNoSource files names file g → f ≡ g
  one_fault names file f g a b =
      (one_answer file b.text).one_fault f g (subst (λ (x : List ℕ). IsCause file x f) (one_text names file a.text b.text a.has b.has) a.cause) b.cause a.refuses b.refuses

  one_more : (names more other : List (List ℕ)) (s t : Source) → s ≡ t → numbered folder names s.imports ≡ Ok more → numbered folder names t.imports ≡ Ok other → more ≡ other
  one_more names more other s t e p q =
      let both : ◌≡◌ {A = Result (List (List ℕ)) Import} (Ok more) (Ok other) = sym p ∙ ap (λ (x : Source). numbered folder names x.imports) e ∙ q in
      cc

  not_more : (names more : List (List ℕ)) (i : Import) (s t : Source) → s ≡ t → numbered folder names s.imports ≡ Ok more → numbered folder names t.imports ≡ Err i → ⊥
  not_more names more i s t e p q =
      let both : ◌≡◌ {A = Result (List (List ℕ)) Import} (Ok more) (Err i) = sym p ∙ ap (λ (x : Source). numbered folder names x.imports) e ∙ q in
      cc

  one_import : (names : List (List ℕ)) (i j : Import) (s t : Source) → s ≡ t → numbered folder names s.imports ≡ Err i → numbered folder names t.imports ≡ Err j → i ≡ j
  one_import names i j s t e p q =
      let both : ◌≡◌ {A = Result (List (List ℕ)) Import} (Err i) (Err j) = sym p ∙ ap (λ (x : Source). numbered folder names x.imports) e ∙ q in
      cc

  -- a file that is read is not refused
  not_refused : (names more : List (List ℕ)) (file : ℕ) (s : Source) (r : Refusal) → IsSourceOf files names file s → numbered folder names s.imports ≡ Ok more → IsRefusedAt files folder names file r → ⊥
  not_refused names more file s (Text at fault) a p r = not_both names file s fault a r.1
  not_refused names more file s (TooManyFiles line name) a p r =
      not_more names more (record { line = line; name = name }) s r.0 (one_source names file s r.0 a r.1) p r.2

  one_refusal : (names : List (List ℕ)) (file : ℕ) (r q : Refusal) → IsRefusedAt files folder names file r → IsRefusedAt files folder names file q → r ≡ q
  one_refusal names file (Text at fault) (Text too other) a b =
      ap₂ (λ (k : ℕ) (f : TextFault). Text k f) (a.0 ∙ sym b.0) (one_fault names file fault other a.1 b.1)
  one_refusal names file (Text at fault) (TooManyFiles line name) a b = absurd (not_both names file b.0 fault b.1 a.1)
  one_refusal names file (TooManyFiles line name) (Text at fault) a b = absurd (not_both names file a.0 fault a.1 b.1)
  one_refusal names file (TooManyFiles line name) (TooManyFiles other x) a b =
      let i = one_import names (record { line = line; name = name }) (record { line = other; name = x }) a.0 b.0 (one_source names file a.0 b.0 a.1 b.1) a.2 b.2 in
      ap (λ (i : Import). TooManyFiles i.line i.name) i

  -- there is no file behind all of them
  beyond : (names : List (List ℕ)) (file : ℕ) (text : List ℕ) → HasText files names file text → file < length names
  beyond names file text h = slice_get_within names file h.name h.at

  refused_text : (names : List (List ℕ)) (file : ℕ) (r : Refusal) → IsRefusedAt files folder names file r → (text : List ℕ) × HasText files names file text
  refused_text names file (Text at fault) a = (a.1.text, a.1.has)
  refused_text names file (TooManyFiles line name) a = (a.1.text, a.1.has)

  all_read : (first : List (List ℕ)) (file : ℕ) (xs ys : List Source) (p q : List (List ℕ)) → AreReadOn files folder first file xs p → AreReadOn files folder first file ys q
      → file + length xs ≡ length p → file + length ys ≡ length q → xs ≡ ys
  all_read first file [] [] p q a b m n = refl
  all_read first file [] (y ∷ ys) p q a b m n =
      let h = beyond first file b.0.text b.0.has in
      absurd (omega (arith, h, m, ap length a))
  all_read first file (x ∷ xs) [] p q a b m n =
      let h = beyond first file a.0.text a.0.has in
      absurd (omega (arith, h, n, ap length b))
  all_read first file (x ∷ xs) (y ∷ ys) p q a b m n =
      let same = one_source first file x y a.0 b.0 in
      ap₂ (λ (s : Source) (l : List Source). s ∷ l) same
      (all_read b.1 (file + 1) xs ys p q
      (subst (λ (l : List (List ℕ)). AreReadOn files folder l (file + 1) xs p) (one_more first a.1 b.1 x y same a.2 b.2) a.3) b.3 (omega (arith, m)) (omega (arith, n)))

  read_or_not : (first : List (List ℕ)) (file : ℕ) (xs ys : List Source) (p q : List (List ℕ)) (r : Refusal) → AreReadOn files folder first file xs p → AreReadOn files folder first file ys q
      → file + length xs ≡ length p → IsRefusedAt files folder q (file + length ys) r → ⊥
  read_or_not first file [] [] p q r a b m f =
      let t = refused_text q (file + 0) r f in
      let h = beyond q (file + 0) t.0 t.1 in
      omega (arith, h, m, ap length a, ap length b)
  read_or_not first file [] (y ∷ ys) p q r a b m f =
      let h = beyond first file b.0.text b.0.has in
      omega (arith, h, m, ap length a)
  read_or_not first file (x ∷ xs) [] p q r a b m f =
      not_refused first a.1 file x r a.0 a.2 (subst (λ (k : ℕ). IsRefusedAt files folder first k r) (add-zero file) (subst (λ (l : List (List ℕ)). IsRefusedAt files folder l (file + 0) r) (sym b) f))
  read_or_not first file (x ∷ xs) (y ∷ ys) p q r a b m f =
      let same = one_source first file x y a.0 b.0 in
      read_or_not b.1 (file + 1) xs ys p q r
      (subst (λ (l : List (List ℕ)). AreReadOn files folder l (file + 1) xs p) (one_more first a.1 b.1 x y same a.2 b.2) a.3) b.3 (omega (arith, m))
      (subst (λ (k : ℕ). IsRefusedAt files folder q k r) (further file (length ys)) f)
    where
      further : (n k : ℕ) → n + suc k ≡ n + 1 + k
      further n k = omega arith

  both_not : (first : List (List ℕ)) (file : ℕ) (xs ys : List Source) (p q : List (List ℕ)) (r s : Refusal) → AreReadOn files folder first file xs p → AreReadOn files folder first file ys q
      → IsRefusedAt files folder p (file + length xs) r → IsRefusedAt files folder q (file + length ys) s → r ≡ s
  both_not first file [] [] p q r s a b m n =
      one_refusal first (file + 0) r s (subst (λ (l : List (List ℕ)). IsRefusedAt files folder l (file + 0) r) (sym a) m) (subst (λ (l : List (List ℕ)). IsRefusedAt files folder l (file + 0) s) (sym b) n)
  both_not first file [] (y ∷ ys) p q r s a b m n =
      absurd (not_refused first b.1 file y r b.0 b.2 (subst (λ (k : ℕ). IsRefusedAt files folder first k r) (add-zero file) (subst (λ (l : List (List ℕ)). IsRefusedAt files folder l (file + 0) r) (sym a) m)))
  both_not first file (x ∷ xs) [] p q r s a b m n =
      absurd (not_refused first a.1 file x s a.0 a.2 (subst (λ (k : ℕ). IsRefusedAt files folder first k s) (add-zero file) (subst (λ (l : List (List ℕ)). IsRefusedAt files folder l (file + 0) s) (sym b) n)))
  both_not first file (x ∷ xs) (y ∷ ys) p q r s a b m n =
      let same = one_source first file x y a.0 b.0 in
      both_not b.1 (file + 1) xs ys p q r s
      (subst (λ (l : List (List ℕ)). AreReadOn files folder l (file + 1) xs p) (one_more first a.1 b.1 x y same a.2 b.2) a.3) b.3
      (subst (λ (k : ℕ). IsRefusedAt files folder p k r) (further file (length xs)) m)
      (subst (λ (k : ℕ). IsRefusedAt files folder q k s) (further file (length ys)) n)
    where
      further : (n k : ℕ) → n + suc k ≡ n + 1 + k
      further n k = omega arith

at_first : (n : ℕ) → 0 + n ≡ n
at_first n = omega arith

pub one_project : (files : Contents) (src : List ℕ) (a b : Result (List Source) Refusal) → IsProject files src a → IsProject files src b → a ≡ b
one_project files src (Ok xs) (Ok ys) a b =
    ap (λ (l : List Source). Ok l) (all_read files (folder_of src) (src ∷ []) 0 xs ys a.names b.names a.read b.read (at_first (length xs) ∙ a.all) (at_first (length ys) ∙ b.all))
one_project files src (Ok xs) (Err s) a b =
    absurd (read_or_not files (folder_of src) (src ∷ []) 0 xs b.sources a.names b.names s a.read b.read (at_first (length xs) ∙ a.all)
    (subst (λ (k : ℕ). IsRefusedAt files (folder_of src) b.names k s) (sym (at_first (length b.sources))) b.next))
one_project files src (Err r) (Ok ys) a b =
    absurd (read_or_not files (folder_of src) (src ∷ []) 0 ys a.sources b.names a.names r b.read a.read (at_first (length ys) ∙ b.all)
    (subst (λ (k : ℕ). IsRefusedAt files (folder_of src) a.names k r) (sym (at_first (length a.sources))) a.next))
one_project files src (Err r) (Err s) a b =
    ap (λ (x : Refusal). Err x)
    (both_not files (folder_of src) (src ∷ []) 0 a.sources b.sources a.names b.names r s a.read b.read
    (subst (λ (k : ℕ). IsRefusedAt files (folder_of src) a.names k r) (sym (at_first (length a.sources))) a.next)
    (subst (λ (k : ℕ). IsRefusedAt files (folder_of src) b.names k s) (sym (at_first (length b.sources))) b.next))
