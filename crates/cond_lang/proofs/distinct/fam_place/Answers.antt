use Rattle.std.proofs.Common.{◌≡◌, ◌++◌, ℕ, List, Option, None, IfOk, ap, sym, ◌∙◌, append-nil, subst}
use Rattle.std.specs.Prelude.{option_map}
use Rattle.gen_tree.specs.Tree.{Int}
use Rattle.gen_tree.specs.View.{int_of}
use Rattle.gen_text.specs.Reading.{fam_of_name}
use Rattle.cond_lang.specs.Form.{place_in}
use Rattle.cond_lang.specs.Names.{Name, index_name, fam_name}
use Rattle.cond_lang.proofs.distinct.fam_place.Goals as goal

-- a name without an index is as it stands
plain : (x : List ℕ) (i : Option Int) → i ≡ None → x ≡ fam_name (fam_of_name x i)
plain x i none = sym (ap (λ (i : Option Int). x ++ index_name i) none ∙ append-nil x)

pub returns-in-None-clause-place : goal.returns-in-None-clause-place
returns-in-None-clause-place c =
    subst (λ (x : Name). IfOk c.place.result (λ place. place ≡ place_in c.args.names.now.known x))
    (plain c.args.name.now (option_map (λ i. int_of i.value) c.args.index.now) (ap (option_map (λ i. int_of i.value)) c.in-None.is)) c.place.ensures.place
