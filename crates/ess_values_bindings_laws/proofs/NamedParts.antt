-- A name over a tuple or a record of domains, and over the list of the tuples or records of new names: these have the same items, and the
-- parts of the list have values.
use Rattle.std.proofs.Common.{◌≡◌, refl, sym, ap, ◌∙◌, subst, Bool, true, false, ◌&&◌, if◌then◌else◌, List, [], ◌∷◌, ◌++◌, map, Option, Some, None, option_map}
use Rattle.std.specs.Prelude.{IsTrue, is_some}
use Rattle.ess_semantics.specs.Lists.{and_then, all_some}
use Rattle.ess_semantics.specs.Values.{Text, Value, tuple, of_list, a_record, node, items_of}
use Rattle.ess_semantics.specs.Order.{same_text}
use Rattle.ess_semantics.specs.Names.{Names, look}
use Rattle.ess_semantics.specs.Trees.{tuple_literal, record_literal, name_pat, tuple_pat, Ex, name_ex, node_ex, comp_ex, no_gens, over, from, Dom, Doms, tuple_dom, record_dom}
use Rattle.ess_semantics.specs.Operators.{misfit, value_of_op, list_value}
use Rattle.ess_semantics.specs.Domains.{Domains, tuples, records, lists_of, members_of_each}
use Rattle.ess_semantics.specs.Meaning.{Env, bind_all, with_pat, meaning, meanings, collect, domain_of, domains_of, members_in}
use Rattle.ess_semantics.specs.Contexts.{Each, EachOf, EachIn}
use Rattle.ess_semantics.specs.Meets.{MeetsDom}
use Rattle.ess_semantics.proofs.Orders.{to_list-of_list}
use Rattle.ess_rules_laws.specs.TupleNames.{named_pats, named_exs, are_names, tuples_over}
use Rattle.ess_rules_laws.proofs.Agreement.{look-itself}
use Rattle.ess_rules_laws.proofs.RuleAnswers.{behind, name-behind, each-any}
use Rattle.ess_rules_laws.proofs.TupleNames.{names-over-tuples}
use Rattle.ess_refine_laws.specs.RecordNames.{are_in_order, records_over}
use Rattle.ess_refine_laws.proofs.RecordNames.{names-over-records}
use Rattle.ess_values_along_laws.specs.Valued.{Valued, AllValued, DomValued}
use Rattle.ess_values_terms_laws.proofs.ValuedForms.{node-valued, all-there}
use Rattle.ess_values_terms_laws.proofs.ValuedLists.{list-there, item-there}
use Rattle.ess_values_sources_laws.proofs.CollectedLists.{some-each, some-list}

-- ---- names that a pattern binds

look-more : (b : Bool) (v : Value) (o : Option Value) → IsTrue (is_some o) → IsTrue (is_some (if b then Some v else o))
look-more true v o h = refl
look-more false v o h = h

-- A name that has a value keeps one.
bound-still : (ys : List Text) (l : List Value) (g : Names Value) (a : Text) → IsTrue (is_some (look g a)) →
    IsTrue (is_some (look (bind_all (named_pats ys) l g) a))
bound-still [] l g a h = h
bound-still (y ∷ ys) [] g a h = bound-still ys [] ((y, misfit) ∷ g) a (look-more (same_text y a) misfit (look g a) h)
bound-still (y ∷ ys) (v ∷ l) g a h = bound-still ys l ((y, v) ∷ g) a (look-more (same_text y a) v (look g a) h)

module _ (env : Env) where
  -- The names have values behind the pattern.
  names-bound : (ys : List Text) (l : List Value) (g : Names Value) →
      AllValued false false (named_exs ys) (record env { vals = bind_all (named_pats ys) l g })
  names-bound [] l g = tt
  names-bound (y ∷ ys) [] g = (
    bound-still ys [] ((y, misfit) ∷ g) y (subst (λ o. IsTrue (is_some o)) (sym (look-itself y misfit g)) refl),
    names-bound ys [] ((y, misfit) ∷ g),
  )
  names-bound (y ∷ ys) (v ∷ l) g = (
    bound-still ys l ((y, v) ∷ g) y (subst (λ o. IsTrue (is_some o)) (sym (look-itself y v g)) refl),
    names-bound ys l ((y, v) ∷ g),
  )

  -- A tuple of them has a value there.
  tuple-valued : (ys : List Text) (v : Value) →
      Valued false (node_ex false tuple_literal (named_exs ys)) (with_pat (tuple_pat (named_pats ys)) v env)
  tuple-valued ys v = let here = with_pat (tuple_pat (named_pats ys)) v env in
      let b = names-bound ys (items_of v) env.vals in
      node-valued false false tuple_literal (named_exs ys) here refl
      (go (all_some (meanings (named_exs ys) here)) (list-there (named_exs ys) here (all-there (named_exs ys) here b))) b
    where
      go : (o : Option (List Value)) → IsTrue (is_some (and_then o (λ xs. Some (list_value xs)))) →
          IsTrue (is_some (and_then o (value_of_op tuple_literal)))
      go None k = k
      go (Some vs) k = refl

  -- So has a record.
  record-valued : (fs ys : List Text) (v : Value) →
      Valued false (node_ex false (record_literal fs) (named_exs ys)) (with_pat (tuple_pat (named_pats ys)) v env)
  record-valued fs ys v = let here = with_pat (tuple_pat (named_pats ys)) v env in
      let b = names-bound ys (items_of v) env.vals in
      node-valued false false (record_literal fs) (named_exs ys) here refl
      (go (all_some (meanings (named_exs ys) here)) (list-there (named_exs ys) here (all-there (named_exs ys) here b))) b
    where
      go : (o : Option (List Value)) → IsTrue (is_some (and_then o (λ xs. Some (list_value xs)))) →
          IsTrue (is_some (and_then o (value_of_op (record_literal fs))))
      go None k = k
      go (Some vs) k = refl

  -- ---- lists of them

  each-of-any : (o : Option (List Value)) (P : Value → Type 0) → ((v : Value) → P v) → EachOf o P
  each-of-any None P f = tt
  each-of-any (Some vs) P f = each-any vs P f

  -- Over a domain whose members can be listed.
  over-there : (o : Option (List Value)) (F : Value → Option Value) → IsTrue (is_some o) → ((v : Value) → IsTrue (is_some (F v))) →
      IsTrue (is_some (option_map list_value (and_then o (λ vs. collect vs (λ v. option_map (λ u. u ∷ []) (F v))))))
  over-there None F h k = h
  over-there (Some vs) F h k = some-list (collect vs (λ v. option_map (λ u. u ∷ []) (F v)))
      (some-each vs (λ v. option_map (λ u. u ∷ []) (F v)) (each-any vs _ (λ v. item-there (F v) (k v))))

  -- The list of the tuples of new names.
  pub tuples-valued : (ys : List Text) (ds : Doms) → DomValued (tuple_dom ds) env →
      IsTrue (is_some (members_in (domain_of (tuple_dom ds) env))) → Valued false (tuples_over ys ds) env
  tuples-valued ys ds d h = (
    over-there (members_in (domain_of (tuple_dom ds) env))
        (λ v. meaning (node_ex false tuple_literal (named_exs ys)) (with_pat (tuple_pat (named_pats ys)) v env)) h
        (λ v. (tuple-valued ys v).0),
    (d, each-of-any (members_in (domain_of (tuple_dom ds) env)) _ (λ v. tuple-valued ys v)),
  )

  -- The list of the records.
  pub records-valued : (fs ys : List Text) (ds : Doms) → DomValued (tuple_dom ds) env →
      IsTrue (is_some (members_in (domain_of (tuple_dom ds) env))) → Valued false (records_over fs ys ds) env
  records-valued fs ys ds d h = (
    over-there (members_in (domain_of (tuple_dom ds) env))
        (λ v. meaning (node_ex false (record_literal fs) (named_exs ys)) (with_pat (tuple_pat (named_pats ys)) v env)) h
        (λ v. (record-valued fs ys v).0),
    (d, each-of-any (members_in (domain_of (tuple_dom ds) env)) _ (λ v. record-valued fs ys v)),
  )

  -- ---- the same items

  -- The items of a list of the values of a name are these values.
  collect-names : (x : Text) (vs : List Value) →
      collect vs (λ v. option_map (λ u. u ∷ []) (meaning (name_ex x) (behind x v env))) ≡ Some vs
  collect-names x [] = refl
  collect-names x (v ∷ vs) =
      ap (λ o. and_then (option_map (λ u. u ∷ []) o) (λ xs. option_map (λ ys. xs ++ ys)
      (collect vs (λ v. option_map (λ u. u ∷ []) (meaning (name_ex x) (behind x v env)))))) (name-behind x v env)
      ∙ ap (option_map (λ ys. v ∷ ys)) (collect-names x vs)

  -- The items of a value, where there is one.
  abbrev items : Option Value → List Value
  items None = []
  items (Some v) = items_of v

  -- Where a name over a domain and over a term make one list, what holds of each member holds of each item.
  moved : (x : Text) (t : Ex) (d : Dom) (P : Value → Type 0) →
      meaning (comp_ex (name_ex x) (over (name_pat x) d no_gens)) env ≡ meaning (comp_ex (name_ex x) (from (name_pat x) t no_gens)) env →
      IsTrue (is_some (members_in (domain_of d env))) → EachOf (members_in (domain_of d env)) P → EachIn (meaning t env) P
  moved x t d P q h e = go (members_in (domain_of d env)) (meaning t env) q h e
    where
      go : (o : Option (List Value)) (p : Option Value) →
          option_map list_value (and_then o (λ vs. collect vs (λ v. option_map (λ u. u ∷ []) (meaning (name_ex x) (behind x v env)))))
          ≡ option_map list_value (and_then p (λ s. collect (items_of s) (λ v. option_map (λ u. u ∷ []) (meaning (name_ex x)
          (behind x v env))))) →
          IsTrue (is_some o) → EachOf o P → EachIn p P
      go None p q h e = cc
      go (Some vs) None q h e = tt
      go (Some vs) (Some s) q h e = subst (λ l. Each l P)
          (sym (to_list-of_list vs)
          ∙ ap items (sym (ap (option_map list_value) (collect-names x vs)) ∙ q ∙ ap (option_map list_value) (collect-names x (items_of s)))
          ∙ to_list-of_list (items_of s)) e

  -- A name over the tuples of new names.
  pub over-tuples : (x : Text) (ys : List Text) (ds : Doms) (P : Value → Type 0) → are_names ys ds ≡ true → MeetsDom (tuple_dom ds) env →
      IsTrue (is_some (members_in (domain_of (tuple_dom ds) env))) → EachOf (members_in (domain_of (tuple_dom ds) env)) P →
      EachIn (meaning (tuples_over ys ds) env) P
  over-tuples x ys ds P h m i e = moved x (tuples_over ys ds) (tuple_dom ds) P
      (names-over-tuples ys (comp_ex (name_ex x) (over (name_pat x) (tuple_dom ds) no_gens))
      (comp_ex (name_ex x) (from (name_pat x) (tuples_over ys ds) no_gens))
      (ap (λ b. if b then Some (comp_ex (name_ex x) (from (name_pat x) (tuples_over ys ds) no_gens)) else None) h) env
      (m, each-of-any (members_in (domain_of (tuple_dom ds) env)) _ (λ v. tt))).0 i e

  -- A name over the records of new names.
  pub over-records : (x : Text) (fs ys : List Text) (ds : Doms) (P : Value → Type 0) → are_names ys ds && are_in_order fs ds ≡ true →
      MeetsDom (record_dom fs ds) env → IsTrue (is_some (members_in (domain_of (record_dom fs ds) env))) →
      EachOf (members_in (domain_of (record_dom fs ds) env)) P → EachIn (meaning (records_over fs ys ds) env) P
  over-records x fs ys ds P h m i e = moved x (records_over fs ys ds) (record_dom fs ds) P
      (names-over-records ys (comp_ex (name_ex x) (over (name_pat x) (record_dom fs ds) no_gens))
      (comp_ex (name_ex x) (from (name_pat x) (records_over fs ys ds) no_gens))
      (ap (λ b. if b then Some (comp_ex (name_ex x) (from (name_pat x) (records_over fs ys ds) no_gens)) else None) h) env
      (m, each-of-any (members_in (domain_of (record_dom fs ds) env)) _ (λ v. tt))).0 i e

  -- A tuple of domains can be listed where a record of them can.
  pub tuples-there : (fs : List Text) (ds : Doms) → IsTrue (is_some (members_in (domain_of (record_dom fs ds) env))) →
      IsTrue (is_some (members_in (domain_of (tuple_dom ds) env)))
  tuples-there fs ds h = go (domains_of ds env) h
    where
      at : (o : Option (List (List Value))) →
          IsTrue (is_some (option_map (λ ls. map (λ l. node (a_record fs) (of_list l)) (lists_of ls)) o)) →
          IsTrue (is_some (option_map (λ ls. map (λ l. tuple (of_list l)) (lists_of ls)) o))
      at None h = h
      at (Some ls) h = refl

      go : (o : Option Domains) → IsTrue (is_some (members_in (option_map (records fs) o))) →
          IsTrue (is_some (members_in (option_map tuples o)))
      go None h = h
      go (Some e) h = at (all_some (members_of_each e)) h
