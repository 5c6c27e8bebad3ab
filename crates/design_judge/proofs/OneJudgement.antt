-- A source has one judgement, but that a design with several loops is refused for any of them.
use Rattle.std.proofs.Common.{◌≡◌, List, Some, None, Result, Ok, Err, refl, sym, ◌∙◌, ap, subst, ◌⊎◌, inl, inr}
use Rattle.gen_tree.specs.Tree.{Source}
use Rattle.elab_core.specs.declared.fault.ElabFault.{ElabFault}
use Rattle.elab_core.specs.Walk as walk
use Rattle.check_core.specs.declared.fault.CheckFault.{CheckFault}
use Rattle.check_core.specs.Verdict.{verdict}
use Rattle.exec_core.specs.Block.{Name}
use Rattle.design_core.specs.Design.{Design}
use Rattle.dep_order.specs.Results.{TellsLoop}
use Rattle.dep_order.proofs.Exclusive.{orders_have_no_loop}
use Rattle.design_judge.specs.declared.design_fault.DesignFault.{DesignFault}
use Rattle.design_judge.specs.declared.design_fault.DesignFault.TheVariants.{Text, TooManyFiles, Elaboration, Check, CombLoop}
use Rattle.design_judge.specs.Judgement.{Top, Reading, AreOfText, IsOne, Stumbles, IsDesignOf, Describes, HasLoop, HasOrder, AreJudged, IsJudged, TellLoops, TellItsLoops, HasOneJudgement, HaveOneJudgement, FilesHaveOneJudgement, told_fault}
use Rattle.project_read.specs.Projects as refused
use Rattle.project_read.specs.Projects.{Refusal, IsProject}
use Rattle.project_read.proofs.OneProject.{one_project}
use Rattle.design_judge.proofs.OneReading.{one_text}

abbrev Judgement : Type 0
Judgement = Result Design DesignFault

-- ---- the steps, each on the sources

-- they have one design
one_of : (top : Top) (sources : List Source) (d e : Design) → IsDesignOf top sources d → IsDesignOf top sources e → d ≡ e
one_of top sources d e p q = let both : ◌≡◌ {A = Result Design walk.Fault} (Ok d) (Ok e) = sym p ∙ q in cc

-- and then their walk meets no fault
no_stumble : (top : Top) (sources : List Source) (d : Design) (fault : ElabFault) → IsDesignOf top sources d → Stumbles top sources fault → ⊥
no_stumble top sources d fault p q = let both : ◌≡◌ {A = Result Design walk.Fault} (Ok d) (Err q.event) = sym p ∙ q.fails in cc

one_stumble : (top : Top) (sources : List Source) (a b : ElabFault) → Stumbles top sources a → Stumbles top sources b → a ≡ b
one_stumble top sources a b p q =
    let both : ◌≡◌ {A = Result Design walk.Fault} (Err p.event) (Err q.event) = sym p.fails ∙ q.fails in
    let event : p.event ≡ q.event = cc in
    p.told ∙ ap told_fault event ∙ sym q.told

-- a design that a check refuses is not clean
not_clean : (d e : Design) (fault : CheckFault) → d ≡ e → verdict d ≡ Some fault → verdict e ≡ None → ⊥
not_clean d e fault same p q = let no : Some fault ≡ None = sym p ∙ ap verdict same ∙ q in cc

one_check : (d e : Design) (a b : CheckFault) → d ≡ e → verdict d ≡ Some a → verdict e ≡ Some b → a ≡ b
one_check d e a b same p q = let both : Some a ≡ Some b = sym p ∙ ap verdict same ∙ q in cc

-- a design with an order has no loop
not_looped : (d e : Design) (paths : List Name) → d ≡ e → HasLoop d paths → HasOrder e → ⊥
not_looped d e paths same p q = orders_have_no_loop e q.pairs p.pairs q.order (subst (λ (x : Design). TellsLoop x p.pairs) same p.loop)

two_loops : (top : Top) (sources : List Source) (d e : Design) (paths others : List Name) → IsDesignOf top sources d → HasLoop d paths → IsDesignOf top sources e → HasLoop e others
    → TellItsLoops top sources (Err (CombLoop paths)) (Err (CombLoop others))
two_loops top sources d e paths others p k q l = record {
  design = d;
  is = p;
  paths = paths;
  others = others;
  first = refl;
  second = refl;
  one = k;
  other = subst (λ (x : Design). HasLoop x others) (one_of top sources e d q p) l;
}

-- ---- the judgement of the sources

pub one_judged : HaveOneJudgement
one_judged top sources (Err (Text file a)) b p q = absurd p
one_judged top sources (Err (TooManyFiles line x)) b p q = absurd p
one_judged top sources (Err (Elaboration a)) (Err (Text file b)) p q = absurd q
one_judged top sources (Err (Elaboration a)) (Err (TooManyFiles line x)) p q = absurd q
one_judged top sources (Err (Elaboration a)) (Err (Elaboration b)) p q = inl (ap (λ (f : ElabFault). Err (Elaboration f)) (one_stumble top sources a b p q))
one_judged top sources (Err (Elaboration a)) (Err (Check b)) p q = absurd (no_stumble top sources q.0 a q.1 p)
one_judged top sources (Err (Elaboration a)) (Err (CombLoop b)) p q = absurd (no_stumble top sources q.0 a q.1 p)
one_judged top sources (Err (Elaboration a)) (Ok e) p q = absurd (no_stumble top sources e a q.0 p)
one_judged top sources (Err (Check a)) (Err (Text file b)) p q = absurd q
one_judged top sources (Err (Check a)) (Err (TooManyFiles line x)) p q = absurd q
one_judged top sources (Err (Check a)) (Err (Elaboration b)) p q = absurd (no_stumble top sources p.0 b p.1 q)
one_judged top sources (Err (Check a)) (Err (Check b)) p q = inl (ap (λ (f : CheckFault). Err (Check f)) (one_check p.0 q.0 a b (one_of top sources p.0 q.0 p.1 q.1) p.2 q.2))
one_judged top sources (Err (Check a)) (Err (CombLoop b)) p q = absurd (not_clean p.0 q.0 a (one_of top sources p.0 q.0 p.1 q.1) p.2 q.2.clean)
one_judged top sources (Err (Check a)) (Ok e) p q = absurd (not_clean p.0 e a (one_of top sources p.0 e p.1 q.0) p.2 q.1.clean)
one_judged top sources (Err (CombLoop a)) (Err (Text file b)) p q = absurd q
one_judged top sources (Err (CombLoop a)) (Err (TooManyFiles line x)) p q = absurd q
one_judged top sources (Err (CombLoop a)) (Err (Elaboration b)) p q = absurd (no_stumble top sources p.0 b p.1 q)
one_judged top sources (Err (CombLoop a)) (Err (Check b)) p q = absurd (not_clean q.0 p.0 b (one_of top sources q.0 p.0 q.1 p.1) q.2 p.2.clean)
one_judged top sources (Err (CombLoop a)) (Err (CombLoop b)) p q = inr (two_loops top sources p.0 q.0 a b p.1 p.2 q.1 q.2)
one_judged top sources (Err (CombLoop a)) (Ok e) p q = absurd (not_looped p.0 e a (one_of top sources p.0 e p.1 q.0) p.2 q.1)
one_judged top sources (Ok d) (Err (Text file b)) p q = absurd q
one_judged top sources (Ok d) (Err (TooManyFiles line x)) p q = absurd q
one_judged top sources (Ok d) (Err (Elaboration b)) p q = absurd (no_stumble top sources d b p.0 q)
one_judged top sources (Ok d) (Err (Check b)) p q = absurd (not_clean q.0 d b (one_of top sources q.0 d q.1 p.0) q.2 p.1.clean)
one_judged top sources (Ok d) (Err (CombLoop b)) p q = absurd (not_looped q.0 d b (one_of top sources q.0 d q.1 p.0) q.2 p.1)
one_judged top sources (Ok d) (Ok e) p q = inl (ap (λ (x : Design). Ok x) (one_of top sources d e p.0 q.0))

-- ---- the judgement of what is read

-- sources that are read are one list
one_sources : (read : Reading) → IsOne read → (a b : List Source) → read (Ok a) → read (Ok b) → a ≡ b
one_sources read one a b p q = let both : ◌≡◌ {A = Result (List Source) Refusal} (Ok a) (Ok b) = one (Ok a) (Ok b) p q in cc

-- and are not refused
not_refused : (read : Reading) → IsOne read → (a : List Source) (r : Refusal) → read (Ok a) → read (Err r) → ⊥
not_refused read one a r p q = let both : ◌≡◌ {A = Result (List Source) Refusal} (Ok a) (Err r) = one (Ok a) (Err r) p q in cc

one_refusal : (read : Reading) → IsOne read → (a b : Refusal) → read (Err a) → read (Err b) → a ≡ b
one_refusal read one a b p q = let both : ◌≡◌ {A = Result (List Source) Refusal} (Err a) (Err b) = one (Err a) (Err b) p q in cc

-- they describe one design
pub one_design : (top : Top) (read : Reading) → IsOne read → (d e : Design) → Describes top read d → Describes top read e → d ≡ e
one_design top read one d e p q =
    one_of top q.sources d e (subst (λ (list : List Source). IsDesignOf top list d) (one_sources read one p.sources q.sources p.are q.are) p.elaborates) q.elaborates

-- a refusal of what is read, as the judgement tells it
abbrev told_refusal : Refusal → DesignFault
told_refusal (refused.Text file fault) = Text file fault
told_refusal (refused.TooManyFiles line x) = TooManyFiles line x

-- it is refused, or what it is read as is judged
pub record IsUnread (read : Reading) (a : Judgement) : Type 0 where
  pub refusal : Refusal
  pub is : a ≡ Err (told_refusal refusal)
  pub refuses : read (Err refusal)

pub record IsReadSo (top : Top) (read : Reading) (a : Judgement) : Type 0 where
  pub sources : List Source
  pub are : read (Ok sources)
  pub judged : AreJudged top sources a

halves : (top : Top) (read : Reading) (a : Judgement) → IsJudged top read a → IsUnread read a ⊎ IsReadSo top read a
halves top read (Err (Text file f)) p = inl (record { refusal = refused.Text file f; is = refl; refuses = p })
halves top read (Err (TooManyFiles line x)) p = inl (record { refusal = refused.TooManyFiles line x; is = refl; refuses = p })
halves top read (Err (Elaboration f)) p = inr (record { sources = p.0; are = p.1; judged = p.2 })
halves top read (Err (Check f)) p = inr (record { sources = p.1.sources; are = p.1.are; judged = (p.0, p.1.elaborates, p.2) })
halves top read (Err (CombLoop f)) p = inr (record { sources = p.1.sources; are = p.1.are; judged = (p.0, p.1.elaborates, p.2) })
halves top read (Ok d) p = inr (record { sources = p.0.sources; are = p.0.are; judged = (p.0.elaborates, p.1) })

-- the loops of the design of what it is read as are told of it
its_loops : (top : Top) (read : Reading) (sources : List Source) (a b : Judgement) → read (Ok sources) → TellItsLoops top sources a b → TellLoops top read a b
its_loops top read sources a b are t =
    let described : Describes top read t.design = record { sources = sources; are = are; elaborates = t.is } in
    record {
      design = t.design;
      paths = t.paths;
      others = t.others;
      first = t.first;
      second = t.second;
      one = record { describes = described; loop = t.one };
      other = record { describes = described; loop = t.other };
    }

joined : (top : Top) (read : Reading) → IsOne read → (a b : Judgement) → IsUnread read a ⊎ IsReadSo top read a → IsUnread read b ⊎ IsReadSo top read b → (a ≡ b) ⊎ TellLoops top read a b
joined top read one a b (inl p) (inl q) = inl (p.is ∙ ap (λ (r : Refusal). Err (told_refusal r)) (one_refusal read one p.refusal q.refusal p.refuses q.refuses) ∙ sym q.is)
joined top read one a b (inl p) (inr q) = absurd (not_refused read one q.sources p.refusal q.are p.refuses)
joined top read one a b (inr p) (inl q) = absurd (not_refused read one p.sources q.refusal p.are q.refuses)
joined top read one a b (inr p) (inr q) =
    let same : p.sources ≡ q.sources = one_sources read one p.sources q.sources p.are q.are in
    elim (one_judged top q.sources a b (subst (λ (list : List Source). AreJudged top list a) same p.judged) q.judged) [
      | inl e ↦ inl e
      | inr loops ↦ inr (its_loops top read q.sources a b q.are loops)
    ]

pub one_judgement : (top : Top) (read : Reading) → IsOne read → (a b : Judgement) → IsJudged top read a → IsJudged top read b → (a ≡ b) ⊎ TellLoops top read a b
one_judgement top read one a b p q = joined top read one a b (halves top read a p) (halves top read b q)

pub text_has_one : HasOneJudgement
text_has_one top text a b p q = one_judgement top (AreOfText text) (one_text text) a b p q

pub files_have_one : FilesHaveOneJudgement
files_have_one top files src a b p q = one_judgement top (IsProject files src) (one_project files src) a b p q

-- what is accepted is refused for no cause
pub not_both : (top : Top) (read : Reading) → IsOne read → (d : Design) (fault : DesignFault) → IsJudged top read (Ok d) → IsJudged top read (Err fault) → ⊥
not_both top read one d fault p q = elim (one_judgement top read one (Ok d) (Err fault) p q) [
  | inl same ↦ let no : ◌≡◌ {A = Judgement} (Ok d) (Err fault) = same in cc
  | inr loops ↦ let no : ◌≡◌ {A = Judgement} (Ok d) (Err (CombLoop loops.paths)) = loops.first in cc
]
