-- A solution is read again from the literals of its values: at its place each find's letting has the find's value.
use Rattle.std.proofs.Common.{◌≡◌, sym, ap, ◌∙◌, subst, ℕ, suc, true, false, List, [], ◌∷◌, map, inl, inr, Option, Some, None, is_some}
use Rattle.std.specs.List.{list_all}
use Rattle.ess_semantics.specs.Lists.{and_then, append_all}
use Rattle.ess_semantics.specs.Values.{Text, Value}
use Rattle.ess_semantics.specs.Names.{Names, look, keys, all_distinct}
use Rattle.ess_semantics.specs.Trees.{Dom, Stm, given, given_enum, let_ex, let_dom, let_enum, let_unnamed, needs, find, such_that, minimise, maximise}
use Rattle.ess_semantics.specs.Types.{type_of_dom}
use Rattle.ess_semantics.specs.Contexts.{Each}
use Rattle.ess_semantics.specs.Prepared.{prepared}
use Rattle.ess_semantics.specs.Membership.{member}
use Rattle.ess_semantics.specs.Meaning.{Env, empty_env, domain_of}
use Rattle.ess_semantics.specs.Literals.{literal_value}
use Rattle.ess_semantics.specs.Judgements.{fault}
use Rattle.ess_semantics.specs.LargeSpecifications.{parameter_is_large}
use Rattle.ess_semantics.specs.Assignments.{Assignment, value_of, placed, placed_from, env_after}
use Rattle.ess_semantics.specs.Parameters.{Param, is_member}
use Rattle.ess_semantics.specs.Solutions.{Sol, finds, find_is_member}
use Rattle.ess_semantics.specs.Plans.{finds_side, domain_of_stm}
use Rattle.ess_semantics.specs.Models.{Ordered}
use Rattle.ess_semantics.proofs.Tests.{some-and}
use Rattle.ess_grammar.specs.Readable.{ReadableStms}
use Rattle.ess_grammar.specs.ValueTexts.{literal_of}
use Rattle.ess_translate_laws.specs.FileAssignments.{value_lettings, assignment_from, values_from, solution_in}
use Rattle.conjure_laws.specs.Members.{In}
use Rattle.conjure_laws.proofs.Lists.{all-items, each-both, each-map, each-of-list, list-of-each, in-map}
use Rattle.conjure_laws.proofs.Statements.{finds-prepared, name-is-find}
use Rattle.conjure_laws.proofs.PlacedStatements.{at-place}
use Rattle.conjure_laws.proofs.NamedValues.{look-made, value_in}
use Rattle.conjure_settled_laws.proofs.SettledStatements.{typed-is-settled}
use Rattle.ess_member_literals_laws.specs.ToldDomains.{IsTold}
use Rattle.ess_member_literals_laws.proofs.MemberLiterals.{members-have-literals, members-are-spelled}
use Rattle.ess_value_names_laws.specs.ValueNames.{HasValueNames}
use Rattle.ess_value_names_laws.proofs.PlacedNames.{values-have-names}
use Rattle.conjure_round_laws.specs.Stood.{is_there}
use Rattle.conjure_round_laws.specs.LetLiterals.{literal_lettings, names_under, IsSpelledValue, IsReadAgain}
use Rattle.conjure_round_laws.specs.Laws.{SolutionsAreReadAgain}
use Rattle.ess_values_laws.specs.Spellable.{numbers_fit}
use Rattle.conjure_round_laws.proofs.FiniteFinds.{find-fits}
use Rattle.conjure_round_laws.proofs.FieldsDiffer.{kept-told}
use Rattle.conjure_round_laws.proofs.ValuesFromFiles.{GivesValue, file-values, no-types, literal-found, values-again, own-entries}

-- The domain of a find has literals.
abbrev IsToldStm : Stm → Type 0
IsToldStm (find x d) = IsTold d
IsToldStm s = Unit {0}

told-placed : (k : ℕ) (T : List Stm) (p a : Assignment) (env : Env) → Each (append_all (map domain_of_stm T)) (λ x. IsTold x.1) →
    Each (placed_from k T p a env) (λ l. IsToldStm l.stm)
told-placed k [] p a env h = tt
told-placed k (find x d ∷ T) p a env h = (h.0, told-placed (suc k) T p a (env_after (find x d) p a env) h.1)
told-placed k (given x d ∷ T) p a env h = (tt, told-placed (suc k) T p a (env_after (given x d) p a env) h.1)
told-placed k (given_enum t ∷ T) p a env h = (tt, told-placed (suc k) T p a (env_after (given_enum t) p a env) h)
told-placed k (let_ex x e ∷ T) p a env h = (tt, told-placed (suc k) T p a env h)
told-placed k (let_dom x d ∷ T) p a env h = (tt, told-placed (suc k) T p a env h)
told-placed k (let_enum t ns ∷ T) p a env h = (tt, told-placed (suc k) T p a (env_after (let_enum t ns) p a env) h)
told-placed k (let_unnamed t e ∷ T) p a env h = (tt, told-placed (suc k) T p a (env_after (let_unnamed t e) p a env) h)
told-placed k (needs e ∷ T) p a env h = (tt, told-placed (suc k) T p a env h)
told-placed k (such_that e ∷ T) p a env h = (tt, told-placed (suc k) T p a env h)
told-placed k (minimise e ∷ T) p a env h = (tt, told-placed (suc k) T p a env h)
told-placed k (maximise e ∷ T) p a env h = (tt, told-placed (suc k) T p a env h)

module _ (S : List Stm) (p a : Assignment) (e : fault S ≡ None) (r : ReadableStms S) (P : Param S p) (l : parameter_is_large S p ≡ false)
    (s : Sol S p a) (o : Ordered S a) where
  abbrev N : Text → ℕ → Text
  N = names_under S p

  -- what holds at the place of a find
  record AtFind (t : Stm) (env : Env) : Type 0 where
    names : HasValueNames N env
    inside : find_is_member a t env ≡ true
    told : IsToldStm t

  places : Each (placed S p a) (λ l. AtFind l.stm l.env)
  places = each-both (placed S p a) (λ l. HasValueNames N l.env × (find_is_member a l.stm l.env ≡ true)) (λ l. IsToldStm l.stm)
      (λ l. AtFind l.stm l.env) (λ l h k. record { names = h.0; inside = h.1; told = k })
      (each-both (placed S p a) (λ l. HasValueNames N l.env) (λ l. find_is_member a l.stm l.env ≡ true)
      (λ l. HasValueNames N l.env × (find_is_member a l.stm l.env ≡ true)) (λ l h k. (h, k)) (values-have-names S p a e r P l)
      (each-of-list (placed S p a) (λ l. find_is_member a l.stm l.env) s.in_domains.are_members))
      (told-placed 1 (prepared S) p a empty_env (kept-told S e r))

  -- the value of a find, with its literal
  record OfFind (x : Text) : Type 0 where
    v : Value
    value : value_of a x ≡ Some v
    spelled : IsSpelledValue N (Some v)

  find-read : (x : Text) (d : Dom) (env : Env) → AtFind (find x d) env →
      (v : Value) × (value_of a x ≡ Some v) × (literal_value (literal_of N v) (type_of_dom d) env ≡ Some v) ×
      (numbers_fit v ≡ true → IsSpelledValue N (Some v))
  find-read x d env h =
      let v = some-and (value_of a x) (is_member d env) h.inside in
      let c = some-and (domain_of d env) (λ c. member c v.0) v.2 in (
        v.0,
        v.1,
        (members-have-literals N d c.0 v.0 env h.names.plain h.names.named h.told c.1 c.2).0,
        λ n. members-are-spelled N d c.0 v.0 env h.names.plain h.names.named h.names.tokens h.told c.1 c.2 n,
      )

  find-value : (x : Text) → In x (finds S) → OfFind x
  find-value x i =
      let d = name-is-find (prepared S) x (subst (In x) (sym (finds-prepared S)) i) in
      let z = at-place S p a AtFind (find x d.0) d.1 places in
      let h = find-read x d.0 z.0 z.1 in
      record { v = h.0; value = h.1; spelled = h.3 (find-fits S p a e r P l s x d.0 d.1 z.1.told h.0 h.1) }

  -- ---- the values in order

  distinct : all_distinct (keys a.vals) ≡ true
  distinct = ap all_distinct o.0 ∙ (typed-is-settled S e).distinct

  entry-find : (b : Text × Option Value) → In b a.vals → OfFind b.0
  entry-find b i = find-value b.0 (subst (In b.0) o.0 (in-map (λ c. c.0) b a.vals i))

  entry-value : (b : Text × Option Value) → In b a.vals → value_of a b.0 ≡ b.1
  entry-value b i = at b (own-entries a.vals distinct) i
    where
      at : (b : Text × Option Value) → Each a.vals (λ b. value_in a.vals b.0 ≡ b.1) → In b a.vals → value_of a b.0 ≡ b.1
      at b h i = go a.vals h i
        where
          go : (bs : Names (Option Value)) → Each bs (λ b. value_in a.vals b.0 ≡ b.1) → In b bs → value_of a b.0 ≡ b.1
          go [] h i = absurd i
          go (c ∷ bs) h (inl q) = subst (λ d. value_in a.vals d.0 ≡ d.1) (sym q) h.0
          go (c ∷ bs) h (inr j) = go bs h.1 j

  all-there : list_all is_there a.vals ≡ true
  all-there = list-of-each a.vals is_there (all-items (λ b. is_there b ≡ true) a.vals
      (λ b i. let f = entry-find b i in ap is_some (sym (entry-value b i) ∙ f.value)))

  -- ---- the file

  abbrev F : List Stm
  F = literal_lettings N a.vals

  gives : (t : Stm) (env : Env) → AtFind t env → GivesValue F a t env
  gives (find x d) env h =
      let f = find-read x d env h in
      ap (λ q. and_then q (λ e. literal_value e (type_of_dom d) env)) (literal-found N a.vals x f.0 all-there f.1) ∙ f.2 ∙ sym f.1
  gives (given x d) env h = tt
  gives (given_enum t) env h = tt
  gives (let_ex x e) env h = tt
  gives (let_dom x d) env h = tt
  gives (let_enum t ns) env h = tt
  gives (let_unnamed t e) env h = tt
  gives (needs e) env h = tt
  gives (such_that e) env h = tt
  gives (minimise e) env h = tt
  gives (maximise e) env h = tt

  values : values_from finds_side F p (prepared S) empty_env ≡ map (λ x. (x, value_of a x)) (finds S)
  values = file-values F p a 1 (prepared S) empty_env
      (each-map (placed S p a) (λ l. AtFind l.stm l.env) (λ l. GivesValue F a l.stm l.env) (λ l h. gives l.stm l.env h) places)
      ∙ ap (map (λ x. (x, value_of a x))) (finds-prepared S)

  again : solution_in S p F ≡ a
  again =
      ap (assignment_from F) values
      ∙ ap (λ ts. record { types = ts; vals = map (λ b. (b.0, f b.0)) (value_lettings F) }) (no-types N a.vals ∙ sym o.1)
      ∙ ap (λ vs. record { types = a.types; vals = vs }) (values-again N a.vals f all-there
      (all-items (λ b. f b.0 ≡ b.1) a.vals (λ b i. found b i ∙ entry-value b i)))
    where
      f : Text → Option Value
      f x = and_then (look (map (λ x. (x, value_of a x)) (finds S)) x) (λ o. o)

      found : (b : Text × Option Value) → In b a.vals → f b.0 ≡ value_of a b.0
      found b i = ap (λ q. and_then q (λ v. v))
          (look-made (λ x. value_of a x) (finds S) b.0 (subst (In b.0) o.0 (in-map (λ c. c.0) b a.vals i)))

  read-again : IsReadAgain S p a
  read-again = record {
    again = again;
    spelled = all-items (λ b. IsSpelledValue N b.1) a.vals
        (λ b i. let f = entry-find b i in subst (IsSpelledValue N) (sym f.value ∙ entry-value b i) f.spelled);
  }

-- A solution is what the lettings of its values' literals stand for.
pub solutions-are-read-again : SolutionsAreReadAgain
solutions-are-read-again S p a e r P l s o = read-again S p a e r P l s o
