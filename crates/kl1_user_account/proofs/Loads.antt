-- Loads, by the definition of the step.
use Rattle.kl1_user_account.proofs.Words.{◌≡◌, ℕ, ◌<◌, ◌≤◌, Bool, true, false, List, [], ◌∷◌, ◌++◌, length, not, sym, ap, ap₂, ◌∙◌, nat_le, nat_lt, is_some, le-leb, lt-ltb, ltb-false, map-append, MOST_MODULES, MOST_SOURCE_BYTES, Module, read_module, good, module_of, State, names_of_module, with_names, limits_of, Transition, load, loaded, unless, are_too_many, is_full, exists, too_many_names, limit_passed, journal_full, with_entry, step, load_module, with_module, CellName, Known, AreNames, with_texts, Numbered, own_names, number_of, IsRead, AreRead, contents, is_numbered, TellsModule, number_reads, Loading, Refused, Drafted, Reading, Fits, Account, texts_of, state_of, ReadsDraft, AreNumbersOf, HasModules, IsDraft, IsDraftOf, LoadsAs, StandsIn, of_module, length-map}
use Rattle.kl1_codes.proofs.Shelving.{tells}
use Rattle.kl1_user_effects.specs.Fitting.{reading_of, reading_fits}
use Rattle.kl1_user_account.proofs.StartSteps.{many_is}

-- ---- whether a drafted module may be loaded

-- a number that is read as a module's name tells whether a module of that name is there
pub tells_name : (ms : List Numbered) (names : List Known) (d : Numbered) (n : CellName) (b : Bool) → ReadsDraft names (own_names d.content) d.row → ((f : Reading) → Fits names f → AreRead f ms) → n ≡ number_of d → TellsModule ms n b → is_some (module_of (contents ms) d.content.name) ≡ b
tells_name ms names d n b r rows is t =
    let f = r.reading in
    sym (t f r.fits.reads (rows f r.fits) ∙ ap (λ x. is_some (module_of (contents ms) x)) (ap f is ∙ number_reads f r.fits.reads d r.reads))

-- what comes of a module, by whether one of its name is there, its names are too many, there is room for it, and the journal is full
pub load_by : (ms : List Numbered) (names : List Known) (most : ℕ) (full : Bool) (m : Module) (there many room blocked : Bool) → is_some (module_of (contents ms) m.name) ≡ there → nat_lt most (length (with_texts (texts_of names) (own_names m))) ≡ many → nat_lt (length ms) MOST_MODULES ≡ room → full ≡ blocked →
    (s : State) → HasModules s ms names most full → load_module s (good m) ≡ unless s ((there, exists) ∷ (many, too_many_names) ∷ (not room, limit_passed) ∷ (blocked, journal_full) ∷ []) (record { state = with_entry (with_module s m); reply = loaded m.name })
load_by ms names most full m there many room blocked absent few less free = λ s at.
    let done : Transition = record { state = with_entry (with_module s m); reply = loaded m.name } in
    let U : Bool → List (List ℕ) → Bool → Bool → Transition = λ p ns r f. unless s ((p, exists) ∷ (are_too_many s.rules ns, too_many_names) ∷ (not r, limit_passed) ∷ (f, journal_full) ∷ []) done in
    let V : Bool → Transition = λ q. unless s ((there, exists) ∷ (q, too_many_names) ∷ (not room, limit_passed) ∷ (blocked, journal_full) ∷ []) done in
    let mine = names_of_module m in
    ap (λ (xs : List Module). U (is_some (module_of xs m.name)) (with_names s.names mine) (nat_lt (length xs) MOST_MODULES) (is_full s)) at.modules_are
    ∙ ap (λ (ns : List (List ℕ)). U (is_some (module_of (contents ms) m.name)) (with_names ns mine) (nat_lt (length (contents ms)) MOST_MODULES) (is_full s)) at.names_are
    ∙ ap₂ (λ p r. U p (with_names (texts_of names) mine) r (is_full s)) absent (ap (λ n. nat_lt n MOST_MODULES) (length-map ms (λ (l : Numbered). l.content)) ∙ less)
    ∙ ap (U there (with_names (texts_of names) mine) room) (at.full_is ∙ free)
    ∙ ap V (ap₂ (λ (k : ℕ) (ns : List (List ℕ)). not (nat_le (length ns) k)) at.most_is (sym (of_module (texts_of names) m)) ∙ many_is (length (with_texts (texts_of names) (own_names m))) most ∙ few)

-- a module that may be loaded
pub draft_loads : (ms : List Numbered) (names : List Known) (most : ℕ) (full : Bool) (d : Numbered) → ReadsDraft names (own_names d.content) d.row → is_numbered ms (number_of d) ≡ false → is_some (module_of (contents ms) d.content.name) ≡ false →
    nat_lt most (length (with_texts (texts_of names) (own_names d.content))) ≡ false → length ms < MOST_MODULES → full ≡ false → IsDraft ms names most full d
draft_loads ms names most full d reads new absent few less room = record {
  reads = reads;
  new = new;
  absent = absent;
  few = ltb-false most (length (with_texts (texts_of names) (own_names d.content))) few;
  modules_few = less;
  room = room;
  loads = load_by ms names most full d.content false false true false absent few (lt-ltb (length ms) MOST_MODULES less) room;
}

-- ---- sources

-- a source that is a module
pub load_good : (text : List ℕ) (m : Module) → length text ≤ MOST_SOURCE_BYTES → read_module text ≡ good m → (s : State) → step s (load text) ≡ load_module s (good m)
load_good text m h r = λ s. rw (le-leb (length text) MOST_SOURCE_BYTES h) (ap (load_module s) r)

-- a module of these parts is one of parts that are the same
pub same_parts : (x : Numbered) (m n : Module) (row own : List CellName) (place : ℕ × ℕ) → x ≡ record { content = m; row = row; place = place } → n ≡ m → own ≡ row → x ≡ record { content = n; row = own; place = place }
same_parts x m n row own place is content rows = rw (content, rows) is

-- a module is drafted for a source that is read as it, if it is one that may be loaded
pub drafted_is : (ms : List Numbered) (names : List Known) (most : ℕ) (full : Bool) (text : List ℕ) (x d : Numbered) → length text ≤ MOST_SOURCE_BYTES → read_module text ≡ good d.content → x ≡ d → IsDraft ms names most full d → IsDraftOf ms names most full text x
drafted_is ms names most full text x d few read is draft = rw is (record { draft = draft; loads = load_good text d.content few read })

-- ---- modules and readings

-- one module more is read
pub read_more : (f : Reading) (ms : List Numbered) (d : Numbered) → AreRead f ms → IsRead f d → AreRead f (ms ++ d ∷ [])
read_more f [] d a r = (r, tt)
read_more f (m ∷ ms) d a r = (a.0, read_more f ms d a.1 r)

pub contents_more : (ms : List Numbered) (d : Numbered) → contents (ms ++ d ∷ []) ≡ contents ms ++ d.content ∷ []
contents_more ms d = map-append (λ l. l.content) ms (d ∷ [])

-- under the numbers that its names got, a drafted module is still none of those that are there
pub still_new : (ms : List Numbered) (ks : List Known) (d : Numbered) (row : List CellName) → AreNames ks → ((f : Reading) → Fits ks f → AreRead f ms) → AreNumbersOf ks (own_names d.content) row → is_some (module_of (contents ms) d.content.name) ≡ false → is_numbered ms (number_of (record d { row = row })) ≡ false
still_new ms ks d row names rows numbers absent =
    let f = reading_of ks in
    let fits = reading_fits ks names in
    let e : Numbered = record d { row = row } in
    tells ms (number_of e) f fits.reads (rows f fits)
    ∙ (ap (λ n. is_some (module_of (contents ms) n)) (number_reads f fits.reads e (numbers f fits)) ∙ absent)

-- ---- loads that are refused

-- whether the journal of an account has no room for one entry more
abbrev pub has_no_room : Account → Bool
has_no_room a = not (nat_lt a.entries (limits_of a.rules).entries)

-- what comes of a source, as was found of an account by what it keeps and whether its journal is full
pub loads_by : {C R : Type 0} (a b : Account) (full : Bool) (source : List ℕ) (l k : Loading C R) → a ≡ b → ((f : Reading) → full ≡ is_full (state_of f b)) → LoadsAs a.modules a.names (limits_of a.rules).names full source l → l ≡ k → LoadsAs b.modules b.names (limits_of b.rules).names (has_no_room b) source k
loads_by a b full source l k view is loads e = rw (view, is (λ c. []), e) at loads
