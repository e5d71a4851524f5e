-- The cells of a text's model have the names of the tables.
use Rattle.std.proofs.Common.{◌≡◌, refl, sym, ap, ◌∙◌, ℕ, Bool, true, false, ◌&&◌, ◌||◌, not, if◌then◌else◌, List, [], ◌∷◌, ◌++◌, map, codes, length, bytes_eq, ◌⊎◌, inl, inr}
use Rattle.ess_semantics.specs.Values.{Text}
use Rattle.ess_semantics.specs.Order.{same_text}
use Rattle.ess_semantics.specs.Names.{is_among}
use Rattle.ess_semantics.proofs.Tests.{or-left-no, or-right-no}
use Rattle.ess_semantics.proofs.Texts.{same_text-equal, same_text-itself, same_text-bytes}
use Rattle.conjure_cli_laws.specs.SmallGrammar.{Statement, find, such_that, each_find, each_constraint, found_names}
use Rattle.conjure_cli_laws.specs.ModelText.{cells_from, cells, cell_of, cell_name, declaration, constraint, lines_with, model_lines, free_name, header_find, header_representation, constraint_lines}
use Rattle.conjure_cli_laws.specs.SmallSets.{table_name}
use Rattle.conjure_cli_laws.proofs.SmallNames.{bytes-one, among-bytes, not-among-test, has_pair, unmarked, name-unmarked, unmarked-pair, table-pair, table-once}
use Rattle.conjure_cli_laws.proofs.SmallStatements.{Named, Spelled}
use Rattle.std.specs.List.{list_all}

-- ---- cells

-- The cells are those of the tables.
abbrev named_cells : List Text → List (Text × Text)
named_cells ns = map (λ x. (x, table_name x)) ns

abbrev Taken : List Text → List Text → Type 0
Taken g taken = (x : Text) → unmarked x ≡ true → is_among g x ≡ false → is_among taken (table_name x) ≡ false

no-or : (a b : Bool) → a ≡ false → b ≡ false → a || b ≡ false
no-or a b e f = ap (λ x. x || b) e ∙ f

cells-are : (ss : List Statement) (g : List Text) (t : Text) (ts : List Text) → Named g ss → Spelled ss → Taken g (t ∷ ts) →
    cells_from (t ∷ ts) (found_names ss) ≡ named_cells (found_names ss)
cells-are [] g t ts n s k = refl
cells-are (such_that j x ∷ ss) g t ts n s k = cells-are ss g t ts n.1 s.2 k
cells-are (find x a b ∷ ss) g t ts n s k =
    let u = name-unmarked x s.0 in
    let free : cell_name (t ∷ ts) x ≡ table_name x = ap (λ b. if b then free_name
    (t ∷ ts) (length ts) (table_name x ++ codes "_") else table_name x) (among-bytes (t ∷ ts) (table_name x) ∙ k x u n.0) in
    ap (λ c. (x, c) ∷ cells_from (c ∷ t ∷ ts) (found_names ss)) free
    ∙ ap (λ l. (x, table_name x) ∷ l) (cells-are ss (x ∷ g) (table_name x) (t ∷ ts) n.1 s.3
    (λ y v e. no-or (same_text (table_name x) (table_name y)) (is_among (t ∷ ts) (table_name y))
    (at u y v e (same_text (table_name x) (table_name y)) refl) (k y v (or-right-no (same_text x y) (is_among g y) e))))
  where
    at : unmarked x ≡ true → (y : Text) → unmarked y ≡ true → same_text x y || is_among g y ≡ false → (q : Bool) →
        same_text (table_name x) (table_name y) ≡ q → same_text (table_name x) (table_name y) ≡ false
    at u y v e false q = q
    at u y v e true q =
        let w : x ≡ y = table-once x y u v (same_text-equal (table_name x) (table_name y) q) in
        let z : true ≡ false = sym (ap (same_text x) (sym w) ∙ same_text-itself x) ∙ or-left-no (same_text x y) (is_among g y) e in cc

plain-names : (ss : List Statement) → Spelled ss → list_all (λ n. not (has_pair n)) (found_names ss) ≡ true
plain-names [] s = refl
plain-names (find x a b ∷ ss) s = ap (λ t. not t && list_all (λ n. not (has_pair n)) (found_names ss))
    (unmarked-pair x (name-unmarked x s.0)) ∙ plain-names ss s.3
plain-names (such_that k x ∷ ss) s = plain-names ss s.2

-- The cells of statements of the small grammar.
pub small-cells : (ss : List Statement) → Named [] ss → Spelled ss → cells ss ≡ named_cells (found_names ss)
small-cells ss n s = cells-are ss [] (codes "alldifferent_except") (found_names ss) n s
    (λ x u e. not-among-test has_pair (codes "alldifferent_except" ∷ found_names ss) (table_name x) (plain-names ss s) (table-pair x))

-- The cell of a name that is found.
pub cell-found : (ns : List Text) (x : Text) → is_among ns x ≡ true → cell_of (named_cells ns) x ≡ table_name x
cell-found [] x e = cc
cell-found (n ∷ ns) x e = go (bytes_eq n x) refl (ap (λ b. b || is_among ns x) (sym (same_text-bytes n x)) ∙ e) (cell-found ns x)
  where
    go : (q : Bool) → bytes_eq n x ≡ q → bytes_eq n x || is_among ns x ≡ true →
        (is_among ns x ≡ true → cell_of (named_cells ns) x ≡ table_name x) →
        (if q then table_name n else cell_of (named_cells ns) x) ≡ table_name x
    go true q e k = ap table_name (bytes-one n x q)
    go false q e k = k (sym (ap (λ b. b || is_among ns x) q) ∙ e)

-- ---- lines

-- Where cells are named so.
abbrev Cells : (Text → Text) → List Text → List Statement → Type 0
Cells f g ss = (x : Text) → (is_among g x ≡ true) ⊎ (is_among (found_names ss) x ≡ true) → f x ≡ table_name x

later-cells : (f : Text → Text) (g : List Text) (x : Text) (a b : ℕ) (ss : List Statement) → Cells f g (find x a b ∷ ss) →
    Cells f (x ∷ g) ss
later-cells f g x a b ss h y k = h y (go (same_text x y) refl k)
  where
    go : (q : Bool) → same_text x y ≡ q → (same_text x y || is_among g y ≡ true) ⊎ (is_among (found_names ss) y ≡ true) →
        (is_among g y ≡ true) ⊎ (same_text x y || is_among (found_names ss) y ≡ true)
    go true q h = inr (ap (λ t. t || is_among (found_names ss) y) q)
    go false q (inl e) = inl (sym (ap (λ t. t || is_among g y) q) ∙ e)
    go false q (inr e) = inr (ap (λ t. t || is_among (found_names ss) y) q ∙ e)

decl-lines : (f : Text → Text) (ss : List Statement) (g : List Text) → Cells f g ss →
    each_find (λ name low high. declaration (f name) low high) ss ≡ each_find (λ name low high. declaration (table_name name) low high) ss
decl-lines f [] g h = refl
decl-lines f (such_that k x ∷ ss) g h = decl-lines f ss g h
decl-lines f (find x a b ∷ ss) g h =
    ap (λ n. declaration n a b ∷ each_find (λ name low high. declaration (f name) low high) ss)
    (h x (inr (ap (λ t. t || is_among (found_names ss) x) (same_text-itself x))))
    ∙ ap (λ l. declaration (table_name x) a b ∷ l) (decl-lines f ss (x ∷ g) (later-cells f g x a b ss h))

rule-lines : (f : Text → Text) (ss : List Statement) (g : List Text) → Named g ss → Cells f g ss →
    each_constraint (λ number name. constraint number (f name)) ss ≡ each_constraint (λ number name. constraint number (table_name name)) ss
rule-lines f [] g n h = refl
rule-lines f (such_that k x ∷ ss) g n h =
    ap (λ m. constraint k m ∷ each_constraint (λ number name. constraint number (f name)) ss) (h x (inl n.0))
    ∙ ap (λ l. constraint k (table_name x) ∷ l) (rule-lines f ss g n.1 h)
rule-lines f (find x a b ∷ ss) g n h = rule-lines f ss (x ∷ g) n.1 (later-cells f g x a b ss h)

-- The lines of the model are those with the names of tables.
pub small-lines : (ss : List Statement) → Named [] ss → Spelled ss → model_lines ss ≡ lines_with table_name ss
small-lines ss n s =
    let f : Text → Text = cell_of (cells ss) in
    let h : Cells f [] ss = λ x k. at x k in
    ap (λ l. codes "language ESSENCE' 1.0" ∷ codes "$ conjure-header 1" ∷ [] ++ each_find
    header_find ss ++ each_find
    header_representation ss ++ codes "$ end-header" ∷ [] ++ l ++
    constraint_lines
    (each_constraint (λ number name. constraint number (f name)) ss)) (decl-lines f ss [] h)
    ∙ ap (λ l. codes "language ESSENCE' 1.0" ∷ codes "$ conjure-header 1" ∷ [] ++ each_find
    header_find ss ++ each_find
    header_representation ss ++ codes "$ end-header" ∷ [] ++ each_find
    (λ name low high. declaration (table_name name) low high) ss ++
    constraint_lines l) (rule-lines f ss [] n h)
  where
    at : (x : Text) → (false ≡ true) ⊎ (is_among (found_names ss) x ≡ true) → cell_of (cells ss) x ≡ table_name x
    at x (inl e) = cc
    at x (inr e) = ap (λ c. cell_of c x) (small-cells ss n s) ∙ cell-found (found_names ss) x e
