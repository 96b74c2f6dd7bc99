use Rattle.std.proofs.Common.{sym, ap, ◌∙◌, rules}
use mir.Val.{SFits}
use mir.Syntax.{w64}
use Rattle.std.proofs.lemmas.Int.{to_z-of_z}
use Rattle.kl1_model.specs.Term.{integer}
use Rattle.kl1_store.specs.Held.{arguments_of}
use Rattle.kl1_store.proofs.Terms.{term_of-unbound, term_of-Integer, term_of-Atom, term_of-Structure}
use Rattle.kl1_store.proofs.Meetings.{count_of-terms_of}
use Rattle.kl1_match_guard.proofs.store_view.StoreView.form_of.Goals as goal

pub returns-in-Variable-clause-means : goal.returns-in-Variable-clause-means
returns-in-Variable-clause-means g c = λ f. sym (c.in-Variable.ensures.means f) ∙ term_of-unbound f c.args.self.now.held c.in-Variable.variable c.in-Variable.ensures.walked

pub returns-in-Integer-clause-means : goal.returns-in-Integer-clause-means
returns-in-Integer-clause-means g c = λ f.
    let fits : SFits w64 c.in-Integer.integer = search rules in
    sym (c.in-Integer.ensures.means f) ∙ term_of-Integer f c.args.self.now.held c.in-Integer.integer ∙ ap integer (sym (to_z-of_z w64 c.in-Integer.integer fits))

pub returns-in-Atom-clause-means : goal.returns-in-Atom-clause-means
returns-in-Atom-clause-means g c = λ f. sym (c.in-Atom.ensures.means f) ∙ term_of-Atom f c.args.self.now.held c.in-Atom.name

pub returns-in-Structure-clause-means : goal.returns-in-Structure-clause-means
returns-in-Structure-clause-means g c = λ f.
    let h = c.args.self.now.held in
    record {
      is = sym (c.in-Structure.ensures.means f) ∙ term_of-Structure f h c.in-Structure.structure c.look-head.result.name c.mark.ensures.formed c.look-head.ensures.name;
      counted = count_of-terms_of f h (arguments_of h c.in-Structure.structure) ∙ sym c.look-head.ensures.count;
    }
