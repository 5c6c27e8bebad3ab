use Rattle.std.proofs.Common.{◌<◌, List, [], ℕ, length, get_or, ◌+◌, ap, sym, ◌∙◌, subst, true≢false, arith}
use Rattle.std.specs.Prelude.{slice_get, IsTrue}
use Rattle.std.proofs.lemmas.Option.{slice_get-get_or}
use Rattle.vcd_read.specs.Nesting.{Scope, Begins, paths_of}
use Rattle.vcd_read.specs.Scopes.{path_at}
use Rattle.vcd_read.proofs.ScopeLemmas.{IsKept, length-scopes_of, scope_kept}
use Rattle.vcd_read.proofs.BeginLemmas.{begins-none, begins-outer, begins-length, path-in-text, last-kept, last-if-true, last-if-false}
use Rattle.vcd_read.proofs.scopes.Scopes.begins.Goals as goal

pub row_at-row-requires : goal.row_at-row-requires
row_at-row-requires c =
    let s = c.self.inside in
    rw (c.deref.ensures.value) (omega (arith, c.requires.within, length-scopes_of s.names s.rows.items c.self.invariant, ap length c.self.view_is))

pub returns-then-parent-last : goal.returns-then-parent-last
returns-then-parent-last c =
    let s = c.self.inside in
    let row = ap (λ rows. slice_get rows c.args.i) (sym c.deref.ensures.value) ∙ c.row_at-row.ensures in
    let below : c.args.i < length s.names = omega (arith, c.requires.within, c.self.invariant.same, length-scopes_of s.names s.rows.items c.self.invariant, ap length c.self.view_is) in
    let name : List ℕ = get_or s.names c.args.i [] in
    let P : List Scope → Type 0 = λ scopes. IsKept scopes c.args.i c.row_at-row.result.parent name in
    let kept = subst P c.self.view_is (scope_kept s.names s.rows.items c.args.i name c.row_at-row.result c.self.invariant (slice_get-get_or s.names c.args.i [] below) row) in
    let none = begins-none c.args.self.now c.args.text.now name c.args.i c.row_at-row.result.parent c.args.last kept c.requires.last (omega arith) in record {
      path = (λ h. absurd (true≢false (sym h)), λ e. absurd (none e));
      taken = tt;
      passed = last-kept c.args.self.now c.args.text.now name c.args.i c.row_at-row.result.parent c.args.last kept c.requires.last none;
    }

pub begins_in-requires : goal.begins_in-requires
begins_in-requires c =
    let s = c.self.inside in
    let row = ap (λ rows. slice_get rows c.args.i) (sym c.deref.ensures.value) ∙ c.row_at-row.ensures in
    let name = c.text.result.now in
    let parent = c.row_at-row.result.parent in
    let P : List Scope → Type 0 = λ scopes. IsKept scopes c.args.i parent name in
    let kept = subst P c.self.view_is (scope_kept s.names s.rows.items c.args.i name c.row_at-row.result c.self.invariant c.text.ensures row) in
    let outer = begins-outer c.args.self.now c.args.text.now name c.args.i parent c.args.last kept c.requires.last (omega arith) in
    omega (arith, begins-length _ c.args.text.now outer, c.path_len-around.ensures.len)

pub returns : goal.returns
returns c =
    let s = c.self.inside in
    let row = ap (λ rows. slice_get rows c.args.i) (sym c.deref.ensures.value) ∙ c.row_at-row.ensures in
    let name = c.text.result.now in
    let parent = c.row_at-row.result.parent in
    let P : List Scope → Type 0 = λ scopes. IsKept scopes c.args.i parent name in
    let kept = subst P c.self.view_is (scope_kept s.names s.rows.items c.args.i name c.row_at-row.result c.self.invariant c.text.ensures row) in
    let outer = begins-outer c.args.self.now c.args.text.now name c.args.i parent c.args.last kept c.requires.last (omega arith) in
    let Q : List ℕ → Type 0 = λ path. Begins path c.args.text.now in
    let same = path-in-text c.args.self.now c.args.text.now name c.args.i parent c.path_len-around.result kept outer c.path_len-around.ensures.len in
    let begins : IsTrue c.begins_in.result → Begins (path_at (paths_of c.args.self.now) (c.args.i + 1)) c.args.text.now = λ h. subst Q same (c.begins_in.ensures.0 h) in
    let back : Begins (path_at (paths_of c.args.self.now) (c.args.i + 1)) c.args.text.now → IsTrue c.begins_in.result = λ e. c.begins_in.ensures.1 (subst Q (sym same) e) in
    record {
      path = (begins, back);
      taken = last-if-true c.args.self.now c.args.text.now name c.args.i parent c.args.last c.begins_in.result kept c.requires.last begins;
      passed = last-if-false c.args.self.now c.args.text.now name c.args.i parent c.args.last c.begins_in.result kept c.requires.last back;
    }
