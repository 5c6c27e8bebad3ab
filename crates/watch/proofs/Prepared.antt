-- What was found for a watch is what the machine arms there; or why it is refused.
use Rattle.std.proofs.Common.{◌≡◌, ℕ, Option, Some, None, IsSome, Result, Ok, Err, option_map, refl, sym, ap, ◌∙◌, subst}
use Rattle.gen_tree.specs.Tree.{Expr}
use Rattle.cond_lang.specs.declared.text.CondText.{CondText}
use Rattle.cond_lang.specs.TextShown.{text_expr}
use Rattle.machine_core.specs.declared.reply.Body.{Body}
use Rattle.machine_core.specs.Matching.{Watch}
use Rattle.machine_core.specs.Arming.{unless_refused, watch_limit, watch_at, ArmsWatch, finds, refuses}
use Rattle.site_core.specs.declared.site.Sited.{Sited}
use Rattle.site_core.specs.Sites.{IsRefusal, sited_of, site_answer}
use Rattle.watch.specs.declared.fault.WatchFault.{WatchFault}
use Rattle.watch.specs.declared.fault.WatchFault.TheVariants as fault
use Rattle.watch.specs.declared.list.Unwatched.{Unwatched}
use Rattle.watch.specs.Arm.{as_watch, IsFor}
use Rattle.machine_core.specs.Arming as machine
use Rattle.site_core.specs.declared.fault.SiteFault.{SiteFault}

-- ---- what is armed where something was found

ok_same : {x y : machine.Sited} → (let r : Result machine.Sited Body = Ok x in r) ≡ Ok y → x ≡ y
ok_same e = cc

err_same : {x y : Body} → (let r : Result machine.Sited Body = Err x in r) ≡ Err y → x ≡ y
err_same e = cc

some_same : {A : Type 0} {x y : A} → Some x ≡ Some y → x ≡ y
some_same e = cc

module _ (armed next : ℕ) (made : Result Watch Body) where
  pub has_instance : (x : Result machine.Sited Body) (found : Sited) → ArmsWatch armed next made x → x ≡ Ok (sited_of found) → IsSome found.instance
  has_instance _ found (finds slots i e is) same = subst (λ (o : Option ℕ). IsSome o) (ap (λ (at : machine.Sited). at.instance) (ok_same same)) refl
  has_instance _ found (refuses refusal is) same = cc

  expr_there : (o : Option CondText) → IsSome (option_map text_expr o) → IsSome o
  expr_there (Some text) h = refl
  expr_there None h = h

  pub has_text : (x : Result machine.Sited Body) (found : Sited) → ArmsWatch armed next made x → x ≡ Ok (sited_of found) → IsSome found.text
  has_text _ found (finds slots i e is) same = expr_there found.text (subst (λ (o : Option Expr). IsSome o) (ap (λ (at : machine.Sited). at.expr) (ok_same same)) refl)
  has_text _ found (refuses refusal is) same = cc

  pub for_found : (x : Result machine.Sited Body) (found : Sited) (u : Unwatched) → ArmsWatch armed next made x → x ≡ Ok (sited_of found)
      → u.slots.items ≡ found.slots.items → Some u.instance ≡ found.instance → Some u.text ≡ found.text → made ≡ unless_refused (watch_limit armed next) (as_watch next u)
  for_found _ found u (finds slots i e is) same es ei et =
      let at = ok_same same in
      let slots_are : slots ≡ u.slots.items = ap (λ (at : machine.Sited). at.slots) at ∙ sym es in
      let instance_is : i ≡ u.instance = some_same (ap (λ (at : machine.Sited). at.instance) at ∙ sym ei) in
      let expr_is : e ≡ text_expr u.text = some_same (ap (λ (at : machine.Sited). at.expr) at ∙ sym (ap (option_map text_expr) et)) in
      is ∙ (λ j. watch_at armed next (slots_are j) (instance_is j) (expr_is j))
  for_found _ found u (refuses refusal is) same es ei et = cc

  -- ---- or refused

  refused_so : (x : Result machine.Sited Body) (refusal : Body) → ArmsWatch armed next made x → x ≡ Err refusal → made ≡ Err refusal
  refused_so _ refusal (finds slots i e is) same = cc
  refused_so _ refusal (refuses other is) same = is ∙ ap (λ b. Err b) (err_same same)

  refused_there : (o : Option Body) (x : Result machine.Sited Body) → ArmsWatch armed next made x → IsRefusal o x → IsRefusal o made
  refused_there None x arms h = tt
  refused_there (Some refusal) x arms h = refused_so x refusal arms h

  pub for_fault : (x : Result machine.Sited Body) (r : Result Unwatched WatchFault) (end : SiteFault) → ArmsWatch armed next made x → r ≡ Err (fault.Site end) → IsRefusal (site_answer end) x → IsFor armed next r made
  for_fault x r end arms e h =
      subst (λ (s : Result Unwatched WatchFault). IsFor armed next s made) (sym e) (refused_there (site_answer end) x arms h)
