-- `same_place` compares one word after the other.
use mathlib.Core.Path.{◌∙◌, sym}
use Rattle.contact_form.proofs.Pairs.{word-a, word-b, word-c, word-d, first-differs, second-differs, third-differs, last-differs, none-differs}
use borrow.Author.Rules.{rules}
use Rattle.contact_form.proofs.same_place.Goals as goal

pub returns-then-w-word : goal.returns-then-w-word
returns-then-w-word c = first-differs c.args.mine.now c.args.other.now c.requires.0 c.requires.1 (λ k. (c.type_inv.mine k).fits) (λ k. (c.type_inv.other k).fits) (λ e. c.if-w-word.true (word-a c.args.mine.now c.requires.2 ∙ e ∙ sym c.word.ensures))

pub returns-then-w-word-2 : goal.returns-then-w-word-2
returns-then-w-word-2 c = second-differs c.args.mine.now c.args.other.now c.requires.0 c.requires.1 (λ k. (c.type_inv.mine k).fits) (λ k. (c.type_inv.other k).fits) (sym (word-a c.args.mine.now c.requires.2) ∙ c.if-w-word.false ∙ c.word.ensures) (λ e. c.if-w-word-2.true (word-b c.args.mine.now c.requires.2 ∙ e ∙ sym c.word-2.ensures))

pub returns-then-w-word-3 : goal.returns-then-w-word-3
returns-then-w-word-3 c = third-differs c.args.mine.now c.args.other.now c.requires.0 c.requires.1 (λ k. (c.type_inv.mine k).fits) (λ k. (c.type_inv.other k).fits) (sym (word-a c.args.mine.now c.requires.2) ∙ c.if-w-word.false ∙ c.word.ensures) (sym (word-b c.args.mine.now c.requires.2) ∙ c.if-w-word-2.false ∙ c.word-2.ensures) (λ e. c.if-w-word-3.true (word-c c.args.mine.now c.requires.2 ∙ e ∙ sym c.word-3.ensures))

pub returns-then-w-word-4 : goal.returns-then-w-word-4
returns-then-w-word-4 c = last-differs c.args.mine.now c.args.other.now c.requires.0 c.requires.1 (λ k. (c.type_inv.mine k).fits) (λ k. (c.type_inv.other k).fits) (sym (word-a c.args.mine.now c.requires.2) ∙ c.if-w-word.false ∙ c.word.ensures) (sym (word-b c.args.mine.now c.requires.2) ∙ c.if-w-word-2.false ∙ c.word-2.ensures) (sym (word-c c.args.mine.now c.requires.2) ∙ c.if-w-word-3.false ∙ c.word-3.ensures) (λ e. c.if-w-word-4.true (word-d c.args.mine.now c.requires.2 ∙ e ∙ sym c.word-4.ensures))

pub returns : goal.returns
returns c = none-differs c.args.mine.now c.args.other.now c.requires.0 c.requires.1 (λ k. (c.type_inv.mine k).fits) (λ k. (c.type_inv.other k).fits) (sym (word-a c.args.mine.now c.requires.2) ∙ c.if-w-word.false ∙ c.word.ensures) (sym (word-b c.args.mine.now c.requires.2) ∙ c.if-w-word-2.false ∙ c.word-2.ensures) (sym (word-c c.args.mine.now c.requires.2) ∙ c.if-w-word-3.false ∙ c.word-3.ensures) (sym (word-d c.args.mine.now c.requires.2) ∙ c.if-w-word-4.false ∙ c.word-4.ensures)
