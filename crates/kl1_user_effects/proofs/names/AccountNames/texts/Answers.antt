use Rattle.kl1_user_effects.proofs.Words.{sym, ap, ◌∙◌, map-map, Known, texts_of, known_of}
use Rattle.kl1_user_effects.proofs.names.AccountNames.texts.Goals as goal

pub returns : goal.returns
returns c =
    c.as_slice.ensures ∙ c.keys.ensures.rest
    ∙ sym (map-map (λ (k : Known). k.text) known_of c.self.inside.numbers.entries)
    ∙ ap (λ s. texts_of s.names) c.self.view_is
