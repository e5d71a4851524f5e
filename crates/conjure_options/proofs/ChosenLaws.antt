-- The representations of all givens and finds.
use Rattle.std.proofs.Common.{◌≡◌, refl, sym, ap, ◌∙◌, ℕ, ◌+◌, ◌<◌, ◌≤◌, true, false, List, [], ◌∷◌, ◌++◌, map, length, take, drop, get_or, Option, Some, None, append-nil, append_assoc}
use Rattle.std.specs.Prelude.{if◌then◌else◌}
use Rattle.std.proofs.lemmas.List.{map-append, take_more, take_all, at_drop_more, at_drop_all}
use Rattle.ess_semantics.specs.Values.{Text}
use Rattle.ess_semantics.specs.Lists.{or_default}
use Rattle.ess_semantics.specs.Order.{same_text}
use Rattle.ess_semantics.specs.Names.{Names, look}
use Rattle.ess_semantics.specs.Choice.{default_repr}
use Rattle.ess_semantics.specs.Trees as pure
use Rattle.ess_semantics.specs.Plans.{Options, domain_of_stm, chosen_reprs}
use Rattle.ess_core.specs.declared.representations.Repr.{Repr}
use Rattle.ess_core.specs.declared.statements.Stm.{Stm}
use Rattle.ess_core.specs.TreeViews.{pure_repr}
use Rattle.ess_core.specs.StatementViews.{pure_stm}
use Rattle.ess_parse.specs.declared.representations.named.NamedReprs.{NamedReprs}
use Rattle.ess_parse.specs.NamedReprViews.{pure_named_reprs}
use Rattle.conjure_options.specs.Items.{domains_of}
use Rattle.conjure_options.specs.Chosen.{chosen_for}

-- ---- all statements

-- The names of statements.
abbrev pub doms : List Stm → Names pure.Dom
doms ss = domains_of (map pure_stm ss)

chosen-append : (o : Options) (xs ys : Names pure.Dom) → chosen_for o (xs ++ ys) ≡ chosen_for o xs ++ chosen_for o ys
chosen-append o xs ys = map-append (λ x. (x.0, chosen_reprs o x.0 x.1)) xs ys

doms-append : (xs ys : List Stm) → doms (xs ++ ys) ≡ doms xs ++ doms ys
doms-append [] ys = refl
doms-append (x ∷ xs) ys =
    ap (λ l. domain_of_stm (pure_stm x) ++ l) (doms-append xs ys) ∙ sym (append_assoc (domain_of_stm (pure_stm x)) (doms xs) (doms ys))

-- Before the first statement nothing is chosen.
pub reprs_none : (o : Options) → [] ≡ chosen_for o (doms [])
reprs_none o = refl

-- A statement more: what it adds is chosen for the names of the statements up to it.
pub reprs_more : (o : Options) (ss : List Stm) (i : ℕ) (s : Stm) (rs ts : List NamedReprs) → i < length ss → s ≡ get_or ss i s
    → map pure_named_reprs ts ≡ map pure_named_reprs rs ++ chosen_for o (domain_of_stm (pure_stm s))
    → map pure_named_reprs rs ≡ chosen_for o (doms (take i ss))
    → map pure_named_reprs ts ≡ chosen_for o (doms (take (i + 1) ss))
reprs_more o ss i s rs ts lt is adds so =
    adds ∙ ap (λ l. l ++ chosen_for o (domain_of_stm (pure_stm s))) so
    ∙ ap (λ l. chosen_for o (doms (take i ss)) ++ chosen_for o l) (sym (append-nil (domain_of_stm (pure_stm s))))
    ∙ sym (chosen-append o (doms (take i ss)) (domain_of_stm (pure_stm s) ++ []))
    ∙ ap (λ t. chosen_for o (doms (take i ss) ++ (domain_of_stm (pure_stm t) ++ []))) is
    ∙ ap (chosen_for o) (sym (doms-append (take i ss) (get_or ss i s ∷ [])))
    ∙ sym (ap (λ l. chosen_for o (doms l)) (take_more ss i s lt))

-- Behind the last statement what is chosen is chosen for all names.
pub reprs_all : (o : Options) (ss : List Stm) (i : ℕ) (rs : List NamedReprs) → length ss ≤ i
    → map pure_named_reprs rs ≡ chosen_for o (doms (take i ss)) → map pure_named_reprs rs ≡ chosen_for o (doms ss)
reprs_all o ss i rs le so = so ∙ ap (λ l. chosen_for o (doms l)) (take_all i ss le)

-- A statement without a domain adds nothing.
pub nothing_added : (rs : List NamedReprs) → map pure_named_reprs rs ≡ map pure_named_reprs rs ++ []
nothing_added rs = sym (append-nil (map pure_named_reprs rs))

-- A name with its representations is one more choice.
pub added : (o : Options) (x : Text) (d : pure.Dom) (rs ts : List NamedReprs) (n : NamedReprs) (trees : List Repr) → ts ≡ rs ++ n ∷ []
    → n.name ≡ x → n.trees ≡ trees → map pure_repr trees ≡ chosen_reprs o x d
    → map pure_named_reprs ts ≡ map pure_named_reprs rs ++ chosen_for o ((x, d) ∷ [])
added o x d rs ts n trees adds name is chosen =
    ap (map pure_named_reprs) adds ∙ map-append pure_named_reprs rs (n ∷ [])
    ∙ ap (λ a. map pure_named_reprs rs ++ (a, map pure_repr n.trees) ∷ []) name
    ∙ ap (λ l. map pure_named_reprs rs ++ (x, l) ∷ []) (ap (map pure_repr) is ∙ chosen)

-- ---- one name

-- Where an option is of the name, its representations are what is looked for.
pub look_here : (os : List NamedReprs) (i : ℕ) (n : NamedReprs) (a : Text) (o : Option (List pure.Repr)) → i < length os → n ≡ get_or os i n
    → true ≡ same_text n.name a → look (map pure_named_reprs (drop i os)) a ≡ o → Some (map pure_repr n.trees) ≡ o
look_here os i n a o lt is same so =
    ap (λ b. if b then Some (map pure_repr n.trees) else look (map pure_named_reprs (drop (i + 1) os)) a) same
    ∙ ap (λ m. look (pure_named_reprs m ∷ map pure_named_reprs (drop (i + 1) os)) a) is
    ∙ sym (at_drop_more (λ l. look (map pure_named_reprs l) a) os i n lt) ∙ so

-- An option of another name is passed over.
pub look_more : (os : List NamedReprs) (i : ℕ) (n : NamedReprs) (a : Text) (o : Option (List pure.Repr)) → i < length os → n ≡ get_or os i n
    → false ≡ same_text n.name a → look (map pure_named_reprs (drop i os)) a ≡ o → look (map pure_named_reprs (drop (i + 1) os)) a ≡ o
look_more os i n a o lt is same so =
    ap (λ b. if b then Some (map pure_repr n.trees) else look (map pure_named_reprs (drop (i + 1) os)) a) same
    ∙ ap (λ m. look (pure_named_reprs m ∷ map pure_named_reprs (drop (i + 1) os)) a) is
    ∙ sym (at_drop_more (λ l. look (map pure_named_reprs l) a) os i n lt) ∙ so

-- Behind the last option nothing is found.
pub look_all : (os : List NamedReprs) (i : ℕ) (a : Text) (o : Option (List pure.Repr)) → length os ≤ i
    → look (map pure_named_reprs (drop i os)) a ≡ o → None ≡ o
look_all os i a o le so = sym (at_drop_all (λ l. look (map pure_named_reprs l) a) os i le) ∙ so

-- What an option names is chosen.
pub by_option : (o : Options) (x : Text) (d : pure.Dom) (rs : List pure.Repr) → Some rs ≡ look o x → rs ≡ chosen_reprs o x d
by_option o x d rs is = ap (λ l. or_default l (default_repr d ∷ [])) is

-- Where no option is of the name, the default is chosen.
pub by_default : (o : Options) (x : Text) (d : pure.Dom) (r : Repr) (rs : List Repr) → None ≡ look o x → rs ≡ r ∷ []
    → pure_repr r ≡ default_repr d
    → map pure_repr rs ≡ chosen_reprs o x d
by_default o x d r rs none is default =
    ap (map pure_repr) is ∙ ap (λ y. y ∷ []) default ∙ ap (λ l. or_default l (default_repr d ∷ [])) none

-- ---- copies

-- A copy more.
pub copies_more : (ts : List Repr) (i : ℕ) (t u : Repr) (rs us : List Repr) → i < length ts → t ≡ get_or ts i t → us ≡ rs ++ u ∷ [] → u ≡ t
    → rs ≡ take i ts → us ≡ take (i + 1) ts
copies_more ts i t u rs us lt is adds copy so =
    adds ∙ ap (λ l. l ++ u ∷ []) so ∙ ap (λ y. take i ts ++ y ∷ []) (copy ∙ is) ∙ sym (take_more ts i t lt)

-- Behind the last one all are copied.
pub copies_all : (ts : List Repr) (i : ℕ) (rs : List Repr) → length ts ≤ i → rs ≡ take i ts → rs ≡ ts
copies_all ts i rs le so = so ∙ take_all i ts le
