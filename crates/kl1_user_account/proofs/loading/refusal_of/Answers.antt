use Rattle.kl1_user_account.proofs.Words.{◌≡◌, true, false, length, refl, sym, ap, ◌∙◌, arith, is_some, lt-ltb, le-ltb, MOST_MODULES, module_of, with_texts, own_names, contents, is_numbered, texts_of}
use Rattle.std.specs.Prelude.{nat_lt}
use Rattle.kl1_user_account.proofs.Loads.{tells_name, load_by, draft_loads}
use Rattle.kl1_user_account.proofs.loading.refusal_of.Goals.{After-has, After-are_too_many}
use Rattle.kl1_user_account.proofs.loading.refusal_of.Goals as goal

-- whether a module of its name is there
there : (g : _) (c : goal.After-has g) → is_some (module_of (contents c.args.modules.now.loaded) c.args.code.now.name) ≡ c.has.result
there g c =
    tells_name c.args.modules.now.loaded c.args.names.now.names (record { content = c.args.code.now; row = c.args.row.now; place = (0, 0) }) c.number_by.result c.has.result c.requires.reads c.requires.rows c.number_by.ensures c.has.ensures.tells

-- whether its names are too many
many : (g : _) (c : goal.After-are_too_many g) → nat_lt c.args.most (length (with_texts (texts_of c.args.names.now.names) (own_names c.args.code.now))) ≡ c.are_too_many.result
many g c = ap (λ ts. nat_lt c.args.most (length (with_texts (texts_of c.args.names.now.names) ts))) (sym c.names.ensures.value) ∙ sym c.are_too_many.ensures

pub returns-then-has : goal.returns-then-has
returns-then-has g c = λ place.
    load_by c.args.modules.now.loaded c.args.names.now.names c.args.most c.args.is_full c.args.code.now true _ _ _ (there g (goal.at.returns-then-has g c).After-has ∙ c.if-has.true) refl refl refl

pub returns-then-are_too_many : goal.returns-then-are_too_many
returns-then-are_too_many g c = λ place.
    let at = goal.at.returns-then-are_too_many g c in
    load_by c.args.modules.now.loaded c.args.names.now.names c.args.most c.args.is_full c.args.code.now false true _ _ (there g at.After-has ∙ c.if-has.false) (many g at.After-are_too_many ∙ c.if-are_too_many.true) refl refl

pub returns-then-len-ge-MOST_MODULES : goal.returns-then-len-ge-MOST_MODULES
returns-then-len-ge-MOST_MODULES g c = λ place.
    let at = goal.at.returns-then-len-ge-MOST_MODULES g c in
    let ms = c.args.modules.now.loaded in
    load_by ms c.args.names.now.names c.args.most c.args.is_full c.args.code.now false false false _ (there g at.After-has ∙ c.if-has.false) (many g at.After-are_too_many ∙ c.if-are_too_many.false) (le-ltb (length ms) MOST_MODULES (omega arith)) refl

pub returns-then-is_full : goal.returns-then-is_full
returns-then-is_full g c = λ place.
    let at = goal.at.returns-then-is_full g c in
    let ms = c.args.modules.now.loaded in
    load_by ms c.args.names.now.names c.args.most c.args.is_full c.args.code.now false false true true (there g at.After-has ∙ c.if-has.false) (many g at.After-are_too_many ∙ c.if-are_too_many.false) (lt-ltb (length ms) MOST_MODULES (omega arith)) c.if-is_full.true

pub returns : goal.returns
returns g c = λ place.
    let at = goal.at.returns g c in
    let ms = c.args.modules.now.loaded in
    draft_loads ms c.args.names.now.names c.args.most c.args.is_full (record { content = c.args.code.now; row = c.args.row.now; place = place }) c.requires.reads (ap (is_numbered ms) (sym c.number_by.ensures) ∙ sym c.has.ensures.value ∙ c.if-has.false)
    (there g at.After-has ∙ c.if-has.false) (many g at.After-are_too_many ∙ c.if-are_too_many.false) (omega arith) c.if-is_full.false
