-- Names that run over tuples of atoms: their bindings have the tuples, and the indices of the components.
use Rattle.std.proofs.Common.{◌≡◌, refl, sym, ap, ◌∙◌, subst, suc, Bool, true, false, ◌||◌, List, [], ◌∷◌, ◌++◌, map, length, ℤ, Option, Some, None, option_map}
use Rattle.std.specs.Prelude.{is_some}
use Rattle.ess_semantics.specs.Lists.{and_then, all_some, list_or_none}
use Rattle.ess_semantics.specs.Values.{Text, Value, tuple, of_list, items_of}
use Rattle.ess_semantics.specs.Order.{same, same_text}
use Rattle.ess_semantics.specs.Collections.{holds}
use Rattle.ess_semantics.specs.Trees.{tuple_literal, tuple_pat, Doms, no_doms, more_doms, tuple_dom}
use Rattle.ess_semantics.specs.Domains.{Domain, Domains, tuples, no_domains, more_domains, domain_list, add_heads, lists_of, members, members_of_each}
use Rattle.ess_semantics.specs.Tables.{code}
use Rattle.ess_semantics.specs.Cells.{Axes}
use Rattle.ess_semantics.specs.Layers.{codes_of}
use Rattle.ess_semantics.specs.Operators.{value_of_node}
use Rattle.ess_semantics.specs.Meaning.{Env, meanings, bind_all, domain_of, domains_of, indices}
use Rattle.ess_semantics.specs.Contexts.{Each}
use Rattle.ess_semantics.specs.Meets.{MeetsAll}
use Rattle.ess_semantics.specs.Substitution.{BindsAll}
use Rattle.ess_semantics.proofs.Orders.{same-equal, to_list-of_list}
use Rattle.ess_semantics.proofs.Tests.{and-left, and-right}
use Rattle.ess_rules_laws.specs.ComponentRules.{has_text}
use Rattle.ess_rules_laws.specs.FunctionViews.{by_names, name_exs, name_pats, names_fit}
use Rattle.ess_rules_laws.proofs.Simulation.{Vals, E}
use Rattle.ess_rules_laws.proofs.Agreement.{AgreeOn, look-itself, outside, same_text-itself}
use Rattle.ess_rules_laws.proofs.Splices.{bind-outside}
use Rattle.ess_rules_laws.proofs.Bindings.{each-map}
use Rattle.ess_rules_laws.proofs.FunctionResults.{RunsOver}

no : {A : Type 0} → false ≡ true → A
no h = cc

-- ---- lists with one item from each

-- The indices of a tuple.
abbrev pub tuple_index : Value → List ℤ
tuple_index v = map code (items_of v)

-- An axis for each domain.
abbrev pub axes_over : Domains → Axes
axes_over ds = map codes_of (domain_list ds)

abbrev T : List Value → Value
T l = tuple (of_list l)

each-codes : (ds : Domains) (ls : List (List Value)) → all_some (members_of_each ds) ≡ Some ls → axes_over ds ≡ map (map code) ls
each-codes no_domains ls q = ap (map (map code)) (let e : [] ≡ ls = cc in e)
each-codes (more_domains d ds) ls q = go (members d) refl (all_some (members_of_each ds)) refl q (λ ms e. each-codes ds ms e)
  where
    go : (o : Option (List Value)) → members d ≡ o → (p : Option (List (List Value))) → all_some (members_of_each ds) ≡ p →
        and_then o (λ vs. option_map (λ ms. vs ∷ ms) p) ≡ Some ls →
        ((ms : List (List Value)) → all_some (members_of_each ds) ≡ Some ms → axes_over ds ≡ map (map code) ms) →
        map code (list_or_none (members d)) ∷ axes_over ds ≡ map (map code) ls
    go None e p f q r = cc
    go (Some vs) e None f q r = cc
    go (Some vs) e (Some ms) f q r = ap (λ o. map code (list_or_none o) ∷ axes_over ds) e ∙ ap (λ l. map code vs ∷ l) (r ms f)
        ∙ ap (map (map code)) (let z : vs ∷ ms ≡ ls = cc in z)

map-both : (xs ys : List (List Value)) → map (map code) (xs ++ ys) ≡ map (map code) xs ++ map (map code) ys
map-both [] ys = refl
map-both (x ∷ xs) ys = ap (λ l. map code x ∷ l) (map-both xs ys)

map-head : (v : Value) (ls : List (List Value)) → map (λ l. code v ∷ l) (map (map code) ls) ≡ map (map code) (map (λ l. v ∷ l) ls)
map-head v [] = refl
map-head v (l ∷ ls) = ap (λ z. (code v ∷ map code l) ∷ z) (map-head v ls)

map-heads : (vs : List Value) (ls : List (List Value)) → add_heads (map code vs) (map (map code) ls) ≡ map (map code) (add_heads vs ls)
map-heads [] ls = refl
map-heads (v ∷ vs) ls = ap (λ z. z ++ add_heads (map code vs) (map (map code) ls)) (map-head v ls)
    ∙ ap (λ z. map (map code) (map (λ l. v ∷ l) ls) ++ z) (map-heads vs ls)
    ∙ sym (map-both (map (λ l. v ∷ l) ls) (add_heads vs ls))

lists-mapped : (ls : List (List Value)) → lists_of (map (map code) ls) ≡ map (map code) (lists_of ls)
lists-mapped [] = refl
lists-mapped (vs ∷ ls) = ap (add_heads (map code vs)) (lists-mapped ls) ∙ map-heads vs (lists_of ls)

tuple-places : (ms : List (List Value)) → map (map code) ms ≡ map tuple_index (map T ms)
tuple-places [] = refl
tuple-places (l ∷ ms) = ap (λ z. map code z ∷ map (map code) ms) (sym (to_list-of_list l))
    ∙ ap (λ z. tuple_index (T l) ∷ z) (tuple-places ms)

-- They have as many items as there are lists.
abbrev LongAs : List (List Value) → List Value → Type 0
LongAs ls l = length l ≡ length ls

each-both : {A : Type 0} (xs ys : List A) (P : A → Type 0) → Each xs P → Each ys P → Each (xs ++ ys) P
each-both [] ys P a b = b
each-both (x ∷ xs) ys P a b = (a.0, each-both xs ys P a.1 b)

each-mapped : {A B : Type 0} (f : A → B) (xs : List A) (P : B → Type 0) → Each xs (λ x. P (f x)) → Each (map f xs) P
each-mapped f [] P a = tt
each-mapped f (x ∷ xs) P a = (a.0, each-mapped f xs P a.1)

heads-long : (us vs : List Value) (ms : List (List Value)) (ls : List (List Value)) → Each ms (LongAs ls) →
    Each (add_heads vs ms) (LongAs (us ∷ ls))
heads-long us [] ms ls h = tt
heads-long us (v ∷ vs) ms ls h = each-both (map (λ l. v ∷ l) ms) (add_heads vs ms) (LongAs (us ∷ ls))
    (each-mapped (λ l. v ∷ l) ms (LongAs (us ∷ ls)) (each-map ms (LongAs ls) _ (λ l e. ap suc e) h)) (heads-long us vs ms ls h)

lists-long : (ls : List (List Value)) → Each (lists_of ls) (LongAs ls)
lists-long [] = (refl, tt)
lists-long (vs ∷ ls) = heads-long vs vs (lists_of ls) ls (lists-long ls)

-- ---- names

or-right : (b e : Bool) → e ≡ true → b || e ≡ true
or-right true e h = refl
or-right false e h = h

names-bind : (xs : List Text) (r : Text → Bool) → ((a : Text) → has_text xs a ≡ true → r a ≡ true) → BindsAll r (name_pats xs)
names-bind [] r h = tt
names-bind (x ∷ xs) r h = (
  h x (ap (λ b. b || has_text xs x) (same_text-itself x)),
  names-bind xs r (λ a q. h a (or-right (same_text x a) (has_text xs a) q)),
)

names-outside : (xs : List Text) (vs : List Value) (g : Vals) → AgreeOn (outside (has_text xs)) g (bind_all (name_pats xs) vs g)
names-outside xs vs g = subst (λ l. AgreeOn (outside (has_text xs)) g (bind_all (name_pats xs) l g)) (to_list-of_list vs)
    (bind-outside (has_text xs) (tuple_pat (name_pats xs)) (T vs) g (names-bind xs (has_text xs) (λ a q. q)))

abbrev pub somes : List Value → List (Option Value)
somes l = map (λ v. Some v) l

all-somes : (l : List Value) → all_some (somes l) ≡ Some l
all-somes [] = refl
all-somes (v ∷ l) = ap (option_map (λ xs. v ∷ xs)) (all-somes l)

names-mean : (xs : List Text) (ds : Doms) (l : List Value) (env : Env) (g : Vals) → names_fit xs ds ≡ true → length l ≡ length xs →
    meanings (name_exs xs) (E env.positions env.types env.cells (bind_all (name_pats xs) l g)) ≡ somes l
names-mean [] ds [] env g h n = refl
names-mean [] ds (v ∷ l) env g h n = cc
names-mean (x ∷ xs) ds [] env g h n = cc
names-mean (x ∷ xs) no_doms (v ∷ l) env g h n = no h
names-mean (x ∷ xs) (more_doms d ds) (v ∷ l) env g h n =
    ap (λ o. o ∷ meanings (name_exs xs) (E env.positions env.types env.cells (bind_all (name_pats xs) l ((x, v) ∷ g))))
    (sym (names-outside xs l ((x, v) ∷ g) x (and-left _ _ h)) ∙ look-itself x v g)
    ∙ ap (λ z. Some v ∷ z) (names-mean xs ds l env ((x, v) ∷ g) (and-right _ _ h) (let e : suc (length l) ≡ suc (length xs) = n in cc))

names-met : (xs : List Text) (env : Env) → MeetsAll false (name_exs xs) env
names-met [] env = tt
names-met (x ∷ xs) env = (tt, names-met xs env)

-- As many names as lists of members.
fit-long : (xs : List Text) (dds : Doms) (env : Env) (ds : Domains) (ls : List (List Value)) → names_fit xs dds ≡ true →
    domains_of dds env ≡ Some ds → all_some (members_of_each ds) ≡ Some ls → length ls ≡ length xs
fit-long [] no_doms env ds ls h p q = ap length (let e : ls ≡ [] = last ds ls p q in e)
  where
    last : (ds : Domains) (ls : List (List Value)) → Some no_domains ≡ Some ds → all_some (members_of_each ds) ≡ Some ls → ls ≡ []
    last no_domains ls p q = sym (let e : [] ≡ ls = cc in e)
    last (more_domains d ds) ls p q = cc
fit-long [] (more_doms d dds) env ds ls h p q = no h
fit-long (x ∷ xs) no_doms env ds ls h p q = no h
fit-long (x ∷ xs) (more_doms d dds) env ds ls h p q = go (domain_of d env) (domains_of dds env) refl p
    (λ es ms a b. fit-long xs dds env es ms (and-right _ _ h) a b)
  where
    Long : Type 0
    Long = (es : Domains) (ms : List (List Value)) → domains_of dds env ≡ Some es → all_some (members_of_each es) ≡ Some ms →
        length ms ≡ length xs

    at : (e : Domain) (es : Domains) → domains_of dds env ≡ Some es → (o : Option (List Value)) (p : Option (List (List Value))) →
        all_some (members_of_each es) ≡ p → and_then o (λ vs. option_map (λ ms. vs ∷ ms) p) ≡ Some ls →
        Long → length ls ≡ suc (length xs)
    at e es a None p f q r = cc
    at e es a (Some vs) None f q r = cc
    at e es a (Some vs) (Some ms) f q r = sym (ap length (let z : vs ∷ ms ≡ ls = cc in z)) ∙ ap suc (r es ms a f)

    go : (o : Option Domain) (p : Option Domains) → domains_of dds env ≡ p → and_then o (λ e. option_map (more_domains e) p) ≡ Some ds →
        Long → length ls ≡ suc (length xs)
    go None p a b r = cc
    go (Some e) None a b r = cc
    go (Some e) (Some es) a b r = at e es a (members e) (all_some (members_of_each es)) refl
        (ap (λ o. all_some (members_of_each o)) (let z : more_domains e es ≡ ds = cc in z) ∙ q) r

-- ---- over a tuple of domains

-- The domains of the components.
pub tuple-parts : (dds : Doms) (env : Env) (d : Domain) → domain_of (tuple_dom dds) env ≡ Some d →
    (ds : Domains) × (domains_of dds env ≡ Some ds) × (tuples ds ≡ d)
tuple-parts dds env d q = go (domains_of dds env) refl q
  where
    go : (o : Option Domains) → domains_of dds env ≡ o → option_map tuples o ≡ Some d →
        (ds : Domains) × (domains_of dds env ≡ Some ds) × (tuples ds ≡ d)
    go None a b = cc
    go (Some ds) a b = (ds, a, let z : tuples ds ≡ d = cc in z)

coded-long : (l : List Value) → length (map code l) ≡ length l
coded-long [] = refl
coded-long (v ∷ l) = ap suc (coded-long l)

lists-many : (ls : List (List Value)) → length (map (map code) ls) ≡ length ls
lists-many [] = refl
lists-many (l ∷ ls) = ap suc (lists-many ls)

-- Names over a tuple of atoms.
pub runs-over_tuple : (xs : List Text) (env : Env) (dds : Doms) (ds : Domains) → names_fit xs dds ≡ true → domains_of dds env ≡ Some ds →
    is_some (members (tuples ds)) ≡ true →
    RunsOver (outside (has_text xs)) (by_names xs) tuple_index (length (axes_over ds)) env (tuples ds) (axes_over ds)
runs-over_tuple xs env dds ds h p t = go (all_some (members_of_each ds)) refl t
  where
    go : (o : Option (List (List Value))) → all_some (members_of_each ds) ≡ o → is_some (option_map (λ ls. map T (lists_of ls)) o) ≡ true →
        RunsOver (outside (has_text xs)) (by_names xs) tuple_index (length (axes_over ds)) env (tuples ds) (axes_over ds)
    go None e t = no t
    go (Some ls) e t = let c = each-codes ds ls e in record {
      us = map T (lists_of ls);
      are_members = ap (option_map (λ ls. map T (lists_of ls))) e;
      places = ap lists_of c ∙ lists-mapped ls ∙ tuple-places (lists_of ls);
      keyed = each-mapped T (lists_of ls) _ (each-map (lists_of ls) (LongAs ls) _ (λ l n.
          let a = subst (λ z. meanings (name_exs xs) (E env.positions env.types env.cells (bind_all (name_pats xs) z env.vals)) ≡ somes l)
          (sym (to_list-of_list l)) (names-mean xs dds l env env.vals h (n ∙ fit-long xs dds env ds ls h p e)) in record {
            agree = names-outside xs (items_of (T l)) env.vals;
            codes = ap indices a ∙ ap (option_map (map code)) (all-somes l) ∙ ap (λ z. Some (map code z)) (sym (to_list-of_list l));
            argument = ap (value_of_node tuple_literal) a ∙ ap (λ z. and_then z (λ vs. Some (T vs))) (all-somes l);
            long = ap (λ z. length (map code z)) (to_list-of_list l) ∙ coded-long l ∙ n ∙ sym (lists-many ls) ∙ sym (ap length c);
            keys_met = names-met xs _;
            argument_met = names-met xs _;
          }) (lists-long ls));
    }

-- ---- members of tuples of atoms

-- What holds of each item holds of one that is held.
pub each-held : (us : List Value) (P : Value → Type 0) (w : Value) → Each us P → holds us w ≡ true → P w
each-held [] P w e h = no h
each-held (u ∷ us) P w e h = go (same u w) refl h (λ z. each-held us P w e.1 z)
  where
    go : (b : Bool) → same u w ≡ b → b || holds us w ≡ true → (holds us w ≡ true → P w) → P w
    go true s h r = subst P (same-equal u w s) e.0
    go false s h r = r h

-- The places over the axes are the indices of the members, as many as there are axes.
pub tuple-members-there : (ds : Domains) (us : List Value) → members (tuples ds) ≡ Some us →
    (lists_of (axes_over ds) ≡ map tuple_index us) × Each us (λ v. length (tuple_index v) ≡ length (axes_over ds))
tuple-members-there ds us q = go (all_some (members_of_each ds)) refl q
  where
    go : (o : Option (List (List Value))) → all_some (members_of_each ds) ≡ o → option_map (λ ls. map T (lists_of ls)) o ≡ Some us →
        (lists_of (axes_over ds) ≡ map tuple_index us) × Each us (λ v. length (tuple_index v) ≡ length (axes_over ds))
    go None e q = cc
    go (Some ls) e q = let c = each-codes ds ls e in let z : map T (lists_of ls) ≡ us = cc in (
      ap lists_of c ∙ lists-mapped ls ∙ tuple-places (lists_of ls) ∙ ap (map tuple_index) z,
      subst (λ l. Each l (λ v. length (tuple_index v) ≡ length (axes_over ds))) z (each-mapped T (lists_of ls) _
          (each-map (lists_of ls) (LongAs ls) _ (λ l n. ap (λ z. length (map code z)) (to_list-of_list l) ∙ coded-long l ∙ n
          ∙ sym (lists-many ls) ∙ sym (ap length c)) (lists-long ls))),
    )
