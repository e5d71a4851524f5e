-- Each rule of comprehensions whose items have an order keeps what it rewrites.
use Rattle.std.proofs.Common.{◌≡◌, refl, sym, ap, subst, ℕ, Bool, true, false, ◌&&◌, not, if◌then◌else◌, List, Option, Some, None}
use Rattle.std.specs.Prelude.{IsTrue, is_some}
use Rattle.ess_semantics.specs.Lists.{and_then, or_else}
use Rattle.ess_semantics.specs.Names.{Names}
use Rattle.ess_semantics.specs.NamesAt.{names_behind}
use Rattle.ess_semantics.specs.Trees.{Op, Ex, Exs, node_ex}
use Rattle.ess_semantics.specs.Types.{Ty}
use Rattle.ess_semantics.specs.Typing.{type_of}
use Rattle.ess_semantics.specs.Contexts.{guards}
use Rattle.ess_semantics.specs.Meaning.{Env, meaning}
use Rattle.ess_semantics.specs.Meets.{Meets, MeetsAll}
use Rattle.ess_semantics.specs.Kept.{Keeps}
use Rattle.ess_semantics.proofs.Tests.{and-left}
use Rattle.ess_rules_laws.specs.Rules.{Unused}
use Rattle.ess_rules_laws.specs.LiteralRules.{nth}
use Rattle.ess_rules_laws.specs.Listings.{Alternative}
use Rattle.ess_rules_laws.specs.FunctionLookups.{unmarked}
use Rattle.ess_rules_laws.specs.Lookups.{is_plain}
use Rattle.ess_rules_laws.specs.AlternativeLookups.{LookedBy, LooksUpEach, select_each, select_whole_each}
use Rattle.ess_rules_laws.proofs.Lookups.{unguarded}
use Rattle.ess_rules_laws.proofs.AlternativeSelections.{nth-met, select_each-keeps, select_whole_each-keeps}
use Rattle.ess_refine_laws.specs.AllRules.{Supply, OfSome}
use Rattle.ess_kinds_kept_laws.specs.KindAsks.{RootFits}
use Rattle.ess_open_rules_laws.specs.OpenRules.{gives_scalar, is_compound_ty}
use Rattle.ess_ordered_laws.specs.NumberedItems.{ordered_lookup}
use Rattle.ess_ordered_laws.specs.IndexedSources.{indexed_source}
use Rattle.ess_ordered_laws.specs.Laws.{SourceTold}
use Rattle.ess_ordered_laws.specs.OrderedRules.{an_item, of_an_item, source_by_indices, source_of_an_item, item_alone, operand_lookup, over_operand, at_operand}
use Rattle.ess_ordered_laws.proofs.IndexedSources.{sources-keep}
use Rattle.ess_ordered_kept_laws.specs.OrderedAsks.{OrderedLookupAsks, OperandAsks, AtOperandAsks, OrderedRulesKeep}
use Rattle.ess_ordered_kept_laws.proofs.OrderedLookups.{ordered-looked}
use Rattle.ess_ordered_kept_laws.proofs.SourcesBehind.{behind-keeps, over-item-keeps}
use Rattle.ess_ordered_kept_laws.proofs.OperandLookups.{chosen-is, operand-looked}

-- ---- a picked scalar

alone-keeps : (s : Supply) (g : Names Ty) (e f : Ex) → item_alone s g e ≡ Some f → (env : Env) → OrderedLookupAsks s.third s.parts e env →
    RootFits e env → Keeps e f env
alone-keeps s g e f q env c r m = go (ordered_lookup s.third s.parts e) refl q
  where
    whole : (e : Ex) (l : List Alternative) → select_whole_each s.one l e ≡ Some f → LookedBy (unmarked e) l env → RootFits e env →
        Keeps e f env
    whole (node_ex b op es) l q k r = select_whole_each-keeps s.one l (node_ex b op es) f q env (k, r)
    whole _ l q k r = cc

    go : (o : Option (List Alternative)) → ordered_lookup s.third s.parts e ≡ o →
        and_then o (λ l. if gives_scalar g e then select_whole_each s.one l e else None) ≡ Some f →
        (meaning e env ≡ meaning f env) × Meets f env
    go None p q = cc
    go (Some l) p q = whole e l (chosen-is (gives_scalar g e) (select_whole_each s.one l e) f q)
        (ordered-looked s.third s.parts e l p env c m) r m

-- ---- an operator on a picked operand

module _ (s : Supply) (g : Names Ty) (f : Ex) (env : Env) where
  operand-keeps : (k : ℕ) (b : Bool) (op : Op) (es : Exs) (a : Ex) (l : List Alternative) → nth es k ≡ Some a →
      select_each s.one k l (node_ex b op es) ≡ Some f → Unused s.one (node_ex b op es) → RootFits (node_ex b op es) env →
      (Meets a env → LookedBy a l env) → Keeps (node_ex b op es) f env
  operand-keeps k b op es a l n q u r h m = go (is_plain op && is_some (nth es k)) refl q
    where
      At : Type 0
      At = (meaning (node_ex b op es) env ≡ meaning f env) × Meets f env

      go : (d : Bool) → is_plain op && is_some (nth es k) ≡ d → select_each s.one k l (node_ex b op es) ≡ Some f → At
      go true p q = select_each-keeps s.one k l (node_ex b op es) f q u env (
        subst (λ o. LooksUpEach o l env) (sym n) (h (nth-met es k a env n
            (subst (λ g. MeetsAll g es env) (unguarded (guards op) (and-left (not (guards op)) _ (and-left (is_plain op) _ p))) m))),
        r,
      ) m
      go false p q = no-answer (sym (ap (λ d. if d then Some f else None) p)) q
        where
          no-answer : {B : Type 0} → None ≡ (if is_plain op && is_some (nth es k) then Some f else None) →
              select_each s.one k l (node_ex b op es) ≡ Some f → B
          no-answer w q = cc

  at-keeps : (k : ℕ) (e : Ex) → at_operand s g k e ≡ Some f → Unused s.one e → RootFits e env → AtOperandAsks s g k e env → Keeps e f env
  at-keeps k (node_ex b op es) q u r c = go (nth es k) refl q c
    where
      inner : (a : Ex) → nth es k ≡ Some a → OperandAsks s g a env →
          (o : Option (List Alternative)) → operand_lookup s g (node_ex b op es) a ≡ o →
          and_then o (λ l. if gives_scalar g (node_ex b op es) && is_compound_ty (type_of a g)
          then select_each s.one k l (node_ex b op es) else None) ≡ Some f → Keeps (node_ex b op es) f env
      inner a n c None p q = cc
      inner a n c (Some l) p q = operand-keeps k b op es a l n
          (chosen-is (gives_scalar g (node_ex b op es) && is_compound_ty (type_of a g)) (select_each s.one k l (node_ex b op es)) f q) u r
          (operand-looked s g env (node_ex b op es) a l p c)

      go : (o : Option Ex) → nth es k ≡ o → and_then o (over_operand s g k (node_ex b op es)) ≡ Some f →
          OfSome o (λ t. OperandAsks s g t env) → Keeps (node_ex b op es) f env
      go None n q c = cc
      go (Some a) n q c = inner a n c (operand_lookup s g (node_ex b op es) a) refl q
  at-keeps k _ q u r c = cc

  -- The first of two.
  either-keeps : (e : Ex) (o p : Option Ex) → or_else o p ≡ Some f → (o ≡ Some f → Keeps e f env) → (p ≡ Some f → Keeps e f env) →
      Keeps e f env
  either-keeps e None p q h k = k q
  either-keeps e (Some x) p q h k = h q

there : (o : Option Ex) (f : Ex) → o ≡ Some f → IsTrue (is_some o)
there None f q = cc
there (Some x) f q = refl

-- ---- each rule

pub ordered-rules-keep : OrderedRulesKeep
ordered-rules-keep s g an_item e f q env c = alone-keeps s g e f q env c.0 c.1
ordered-rules-keep s g of_an_item e f q env c = either-keeps s g f env e (at_operand s g 1 e) (at_operand s g 2 e) q
    (λ p. at-keeps s g f env 1 e p c.0 c.1 (c.2 (there (at_operand s g 1 e) f p)))
    (λ p. at-keeps s g f env 2 e p c.0 c.1 (c.3 (there (at_operand s g 2 e) f p)))
ordered-rules-keep s g source_by_indices e f q env c = behind-keeps (λ gs. indexed_source (names_behind gs g) s.one)
    (λ gs. SourceTold (names_behind gs g) s.one) (λ gs. sources-keep (names_behind gs g) s.one) e f q env c
ordered-rules-keep s g source_of_an_item e f q env c = over-item-keeps s e f q env c
