-- Laws of good texts of a model, a parameter and cells: nothing is said against them.
use Rattle.std.proofs.Common.{◌≡◌, refl, sym, ap, ◌∙◌, subst, inl, inr, List, [], ◌∷◌, ◌++◌, Bool, true, false, ◌&&◌, Option, Some, None, option_map}
use Rattle.std.specs.Prelude.{is_some}
use Rattle.std.specs.List.{list_all}
use Rattle.ess_semantics.specs.Lists.{and_then, each_of}
use Rattle.ess_semantics.specs.Values.{Text, Value}
use Rattle.ess_semantics.specs.Names.{Names}
use Rattle.ess_semantics.specs.Trees.{Stm, Ex}
use Rattle.ess_semantics.specs.Domains.{Domain}
use Rattle.ess_semantics.specs.Tables.{Table}
use Rattle.ess_semantics.specs.Assignments.{Assignment}
use Rattle.ess_semantics.specs.Declarations.{Declaration}
use Rattle.ess_semantics.specs.DeclaredTables.{TableDecl, axis_members, SameMembers, DeclaredAs}
use Rattle.ess_semantics.specs.Parameters.{param_verdict}
use Rattle.ess_semantics.specs.ModelTrees.{Header, Model, all_decls}
use Rattle.ess_semantics.specs.ModelMeaning.{model_domain}
use Rattle.ess_semantics.specs.Satisfaction.{satisfied, false_rule, model_verdict, domain_has_meaning}
use Rattle.ess_semantics.specs.Plans.{given_tables, values_stood_for}
use Rattle.ess_semantics.proofs.SatisfiedTables.{Sat-verdict}
use Rattle.ess_grammar.specs.Statements.{IsLettingsFile}
use Rattle.ess_grammar.specs.ModelTexts.{IsModel}
use Rattle.ess_grammar.specs.CellTexts.{IsCells}
use Rattle.eprime_cells_laws.specs.TableReading.{cells_answer, tables, missing_letting, extra_letting, outside_domain}
use Rattle.eprime_verdicts.specs.declared.satisfying.PVerdict.{PVerdict}
use Rattle.ess_translate_header_laws.specs.Headers.{HasHeader}
use Rattle.ess_translate_header_laws.proofs.OneHeader.{one-header}
use Rattle.ess_translate_tables_laws.specs.HeaderTables.{DeclaresTables}
use Rattle.ess_translate_laws.specs.FileAssignments.{parameter_in}
use Rattle.ess_translate.specs.declared.refusal.Which.{Which}
use Rattle.ess_translate.specs.declared.refusal.TransNo.{TransNo}
use Rattle.ess_translate.specs.Texts.{Spells}
use Rattle.ess_translate.specs.Answers.{IsParameter}
use Rattle.ess_translate_files.specs.ModelFiles.{IsModelFile, IsNoModelFile}
use Rattle.ess_translate_given_laws.specs.Counts.{too_many}
use Rattle.ess_translate_members_laws.specs.DeclaresMembers.{DeclaresMembers}
use Rattle.ess_translate_files.specs.GivenFiles.{IsGiven, IsNotGiven, IsLargeFor}
use Rattle.ess_translate_solutions.specs.CellFiles.{AreCells, IsSolved, IsNotSolved, FailsAt, all_there, first_without}
use Rattle.ess_translate.proofs.Spelled.{spelled-unrefused}
use Rattle.conjure_cli.specs.Judging.{IsTold}
use Rattle.conjure_cli.specs.Reasons.{refusal_status}
use Rattle.conjure_cli.specs.TranslationDecided.{AreGoodCells, IsSolvable}

-- ---- the same of one text

-- a text is the model of one header
pub one_header_of : (text : Text) (H K : Header) (E F : Model) → IsModelFile text H E → HasHeader text K → K ≡ H
one_header_of text H K E F good has = one-header text K H has.0 good.header.0

-- and one model
pub one_model_of : (text : Text) (H : Header) (E F : Model) → IsModelFile text H E → Spells IsModel text F → F ≡ E
one_model_of text H E F good spells = good.spells.only F spells.reads

-- a text is one parameter of a header
pub one_parameter : (S : List Stm) (text : Text) (F G : List Stm) (p r : Assignment) → IsParameter S text F p → IsParameter S text G r → r ≡ p
one_parameter S text F G p r good other =
    other.stands ∙ ap (parameter_in S) (good.spells.only G other.spells.reads) ∙ sym good.stands

-- its tables are one
pub one_tables : (o : Option (Names Table)) (q r : Names Table) → o ≡ Some q → o ≡ Some r → r ≡ q
one_tables o q r is other = let h : Some r ≡ Some q = sym other ∙ is in cc

-- nothing is not something
nothing-some : {A : Type 0} (a : A) → None ≡ Some a → ⊥
nothing-some a h = cc

-- ---- good texts are refused by none

pub good_model : (text : Text) (H : Header) (E : Model) (why : TransNo) → IsModelFile text H E → IsTold why → IsNoModelFile text why → ⊥
good_model text H E TransNo.HeaderBad good told h = elim h [
  | inl none ↦ none H good.header
  | inr k ↦ k.4 (subst (λ K. DeclaresTables K k.1) (sym (one_header_of text H k.0 E k.1 good k.2))
      (subst (λ F. DeclaresTables H F) (sym (one_model_of text H E k.1 good k.3)) good.tables))
]
good_model text H E (TransNo.Read Which.Model why) good told h = spelled-unrefused IsModel text E why good.spells h.2
good_model text H E (TransNo.Read Which.Essence why) good told h = h
good_model text H E (TransNo.Read Which.Param why) good told h = h
good_model text H E (TransNo.Read Which.Solution why) good told h = h
good_model text H E (TransNo.Typing why) good told h = h
good_model text H E (TransNo.InvalidParameter v) good told h = h
good_model text H E (TransNo.TooManyCells x k) good told h = h
good_model text H E (TransNo.Unsatisfied v) good told h = h
good_model text H E (TransNo.NotRepresented x) good told h = h
good_model text H E TransNo.Big good told h = h
good_model text H E TransNo.NoMemory good told h = told

pub good_given : (H : Header) (E : Model) (text : Text) (F : List Stm) (p : Assignment) (q : Names Table) (why : TransNo)
    → IsGiven H E text F p q → (IsLargeFor H E p → ⊥) → IsTold why → IsNotGiven H E text why → ⊥
good_given H E text F p q TransNo.HeaderBad good small told h =
    let same : h.1 ≡ p = one_parameter H.statements text F h.0 p h.1 good.parameter h.2 in
    let one : h.3.0 ≡ q = one_tables (given_tables H.statements H.reprs p) q h.3.0 good.has.tables
    (subst (λ r. given_tables H.statements H.reprs r ≡ Some h.3.0) same h.3.2) in
    h.3.3 (subst (λ r. DeclaresMembers H E r h.3.0) (sym same) (subst (λ c. DeclaresMembers H E p c) (sym one) good.has.members))
good_given H E text F p q (TransNo.TooManyCells x k) good small told h =
    let same : h.1 ≡ p = one_parameter H.statements text F h.0 p h.1 good.parameter h.2 in
    nothing-some (x, h.3.0) (sym good.has.few ∙ ap (too_many H) (sym same) ∙ h.3.1)
good_given H E text F p q TransNo.Big good small told h =
    small (subst (IsLargeFor H E) (ap (parameter_in H.statements) (good.parameter.spells.only h.0 h.1.reads) ∙ sym good.parameter.stands) h.2)
good_given H E text F p q (TransNo.Read Which.Param why) good small told h =
    spelled-unrefused IsLettingsFile text F why good.parameter.spells h
good_given H E text F p q (TransNo.Read Which.Essence why) good small told h = h
good_given H E text F p q (TransNo.Read Which.Model why) good small told h = h
good_given H E text F p q (TransNo.Read Which.Solution why) good small told h = h
good_given H E text F p q (TransNo.Typing why) good small told h = h
good_given H E text F p q (TransNo.InvalidParameter v) good small told h =
    h.2.unfit (ap (λ G. param_verdict H.statements (parameter_in H.statements G)) (good.parameter.spells.only h.0 h.1.reads)
    ∙ ap (param_verdict H.statements) (sym good.parameter.stands) ∙ good.parameter.fits)
good_given H E text F p q (TransNo.Unsatisfied v) good small told h = h
good_given H E text F p q (TransNo.NotRepresented x) good small told h = h
good_given H E text F p q TransNo.NoMemory good small told h = told

-- ---- cells

-- what each item has, where all have it
each-there : {A B : Type 0} (f : A → Option B) (P : A → Bool) → ((x : A) → is_some (f x) ≡ true → P x ≡ true) → (xs : List A) (ys : List B)
    → each_of xs f ≡ Some ys → list_all P xs ≡ true
each-there f P step [] ys h = refl
each-there {A} {B} f P step (x ∷ xs) ys h = go (f x) refl (each_of xs f) refl (each-there f P step xs) h
  where
    go : (o : Option B) → f x ≡ o → (m : Option (List B)) → each_of xs f ≡ m
        → ((zs : List B) → each_of xs f ≡ Some zs → list_all P xs ≡ true)
        → and_then o (λ y. option_map (λ zs. y ∷ zs) m) ≡ Some ys → (P x && list_all P xs) ≡ true
    go None i m e rest k = let c : None ≡ Some ys = k in cc
    go (Some y) i None e rest k = let c : None ≡ Some ys = k in cc
    go (Some y) i (Some zs) e rest k = ap (λ b. b && list_all P xs) (step x (ap is_some i)) ∙ rest zs e

-- a domain with listed members has a meaning
listed-meant : (o : Option Domain) → is_some (axis_members o) ≡ true → is_some o ≡ true
listed-meant None h = h
listed-meant (Some d) h = refl

same-meant : (o : Option Domain) (e : Domain) → SameMembers o e → is_some o ≡ true
same-meant None e h = absurd h
same-meant (Some d) e h = refl

-- declared domains with members have a meaning
declared-meant : (E : Model) (q : Names Table) (ts : List TableDecl) (ds : List Declaration)
    → DeclaredAs (model_domain (all_decls E) q) ts ds → list_all (domain_has_meaning E q) ts ≡ true
declared-meant E q [] [] h = refl
declared-meant E q [] (d ∷ ds) h = absurd h
declared-meant E q (t ∷ ts) [] h = absurd h
declared-meant E q (t ∷ ts) (d ∷ ds) h =
    ap (λ b. b && list_all (domain_has_meaning E q) ts) (
    ap (λ b. b && is_some (model_domain (all_decls E) q t.cell))
    (each-there (λ a. axis_members (model_domain (all_decls E) q a)) (λ a. is_some (model_domain (all_decls E) q a))
    (λ a. listed-meant (model_domain (all_decls E) q a)) t.axes d.axes h.0)
    ∙ same-meant (model_domain (all_decls E) q t.cell) d.cell h.1)
    ∙ declared-meant E q ts ds h.2

all-append : {A : Type 0} (P : A → Bool) (xs ys : List A) → list_all P xs ≡ true → list_all P ys ≡ true → list_all P (xs ++ ys) ≡ true
all-append P [] ys h k = k
all-append P (x ∷ xs) ys h k = go (P x) h (λ e. all-append P xs ys e k)
  where
    go : (b : Bool) → (b && list_all P xs) ≡ true → (list_all P xs ≡ true → list_all P (xs ++ ys) ≡ true)
        → (b && list_all P (xs ++ ys)) ≡ true
    go false e rest = e
    go true e rest = rest e

-- over given tables each declared domain has a meaning
all_meant : (H : Header) (E : Model) (p : Assignment) (q : Names Table) → DeclaresMembers H E p q
    → list_all (domain_has_meaning E q) (all_decls E) ≡ true
all_meant H E p q m = all-append (domain_has_meaning E q) E.givens E.finds
    (declared-meant E q E.givens _ m.givens) (declared-meant E q E.finds _ m.finds)

-- a text is one list of cells
one_cells : (E : Model) (q : Names Table) (text : Text) (cs : Names Ex) (c : Names Table) (a : AreCells E q text c)
    → Spells IsCells text cs → cells_answer E.givens q E.finds cs ≡ tables c
one_cells E q text cs c a spells = ap (cells_answer E.givens q E.finds) (a.spells.only cs spells.reads) ∙ a.are

some_tables : (c d : Names Table) → tables c ≡ tables d → c ≡ d
some_tables c d h = cc

-- cells that fail at something stand for no solution
fails_unsolved : (H : Header) (E : Model) (p : Assignment) (q : Names Table) (text bytes : Text) (cs : Names Ex) (v : PVerdict)
    → DeclaresMembers H E p q → Spells IsCells text cs → FailsAt E q cs v → IsSolved H E p q text bytes → ⊥
fails_unsolved H E p q text bytes cs (PVerdict.Missing x) m spells fails s =
    let c : missing_letting x ≡ tables s.c = sym fails ∙ one_cells E q text cs s.c s.cells spells in cc
fails_unsolved H E p q text bytes cs (PVerdict.Extra x) m spells fails s =
    let c : extra_letting x ≡ tables s.c = sym fails ∙ one_cells E q text cs s.c s.cells spells in cc
fails_unsolved H E p q text bytes cs (PVerdict.OutOfDomain x) m spells fails s =
    let c : outside_domain x ≡ tables s.c = sym fails ∙ one_cells E q text cs s.c s.cells spells in cc
fails_unsolved H E p q text bytes cs (PVerdict.False n) m spells fails s =
    let same : fails.0 ≡ s.c = some_tables fails.0 s.c (sym fails.1 ∙ one_cells E q text cs s.c s.cells spells) in
    let c : false_rule fails.2.0 ≡ satisfied =
    sym fails.2.1 ∙ ap (model_verdict E q) same ∙ Sat-verdict E q s.c s.satisfy (all_meant H E p q m) in
    cc
fails_unsolved H E p q text bytes cs PVerdict.Yes m spells fails s = fails

-- where all values are there, none is missing
none_without : (vs : Names Value) → first_without (all_there vs) ≡ None
none_without [] = refl
none_without (v ∷ vs) = none_without vs

-- a find without a value leaves no solution
missing_unsolved : (H : Header) (E : Model) (p : Assignment) (q : Names Table) (text bytes x : Text) (c : Names Table)
    → AreCells E q text c → first_without (values_stood_for H.statements H.reprs p c) ≡ Some x → IsSolved H E p q text bytes → ⊥
missing_unsolved H E p q text bytes x c a none s =
    let same : c ≡ s.c = some_tables c s.c (sym a.are ∙ one_cells E q text a.literals s.c s.cells a.spells) in
    let k : None ≡ Some x = sym (none_without s.vs) ∙ ap first_without (sym s.stand)
    ∙ ap (λ d. first_without (values_stood_for H.statements H.reprs p d)) (sym same) ∙ none in
    cc

-- A refusal of good cells says that they stand for no solution.
pub good_cells : (H : Header) (E : Model) (p : Assignment) (q : Names Table) (text : Text) (cs : Names Ex) (why : TransNo)
    → DeclaresMembers H E p q → AreGoodCells E q text cs → IsTold why → IsNotSolved H E p q text why
    → (refusal_status why ≡ 1) × (IsSolvable H E p q text → ⊥)
good_cells H E p q text cs (TransNo.Read Which.Solution why) m good told h = absurd (spelled-unrefused IsCells text cs why good.spells h)
good_cells H E p q text cs (TransNo.Read Which.Essence why) m good told h = absurd h
good_cells H E p q text cs (TransNo.Read Which.Model why) m good told h = absurd h
good_cells H E p q text cs (TransNo.Read Which.Param why) m good told h = absurd h
good_cells H E p q text cs TransNo.HeaderBad m good told h = absurd h
good_cells H E p q text cs (TransNo.Typing why) m good told h = absurd h
good_cells H E p q text cs (TransNo.InvalidParameter v) m good told h = absurd h
good_cells H E p q text cs (TransNo.TooManyCells x k) m good told h = absurd h
good_cells H E p q text cs (TransNo.Unsatisfied v) m good told h =
    (refl, λ s. fails_unsolved H E p q text s.0 h.0 v m h.1 h.2 s.1)
good_cells H E p q text cs (TransNo.NotRepresented x) m good told h =
    (refl, λ s. missing_unsolved H E p q text s.0 x h.0 h.1 h.3 s.1)
good_cells H E p q text cs TransNo.Big m good told h = absurd (good.small h)
good_cells H E p q text cs TransNo.NoMemory m good told h = absurd told
