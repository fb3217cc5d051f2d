use Rattle.std.proofs.Common.{rules, ◌≡◌, ◌++◌, ◌∷◌, [], List, ℕ, length, ◌∙◌, ap, append_assoc, length-append}
use Rattle.line_log.specs.Lines.{lines_in}
use Rattle.line_log.proofs.DigitLemmas.{put_found, put_text}
use Rattle.line_log.proofs.hashing.put_line.Goals as goal

pub returns-clause-put : goal.returns-clause-put
returns-clause-put c before held =
    let hash = c.in_ok-hash.hash in
    let is : c.push-2.new.self.items ≡ c.args.file.now.items ++ (c.args.line.now ++ 32 ∷ hash) ++ 10 ∷ [] = search (rules, append_assoc) in
    put_found c.args.file.now.items c.args.line.now hash c.push-2.new.self.items c.requires.text c.requires.line c.in_ok-hash.ensures.printed is
    ∙ ap (λ (h : List ℕ). lines_in c.args.file.now.items ++ (c.args.line.now ++ 32 ∷ h) ∷ []) (c.in_ok-hash.ensures.hash before held)

pub returns-clause-lines : goal.returns-clause-lines
returns-clause-lines c =
    let hash = c.in_ok-hash.hash in
    let is : c.push-2.new.self.items ≡ c.args.file.now.items ++ (c.args.line.now ++ 32 ∷ hash) ++ 10 ∷ [] = search (rules, append_assoc) in
    put_text c.args.file.now.items c.args.line.now hash c.push-2.new.self.items c.requires.text c.requires.line c.in_ok-hash.ensures.printed is

pub returns-clause-count : goal.returns-clause-count
returns-clause-count c =
    let hash = c.in_ok-hash.hash in
    let file = c.args.file.now.items in
    let is : c.push-2.new.self.items ≡ file ++ (c.args.line.now ++ 32 ∷ hash) ++ 10 ∷ [] = search (rules, append_assoc) in
    ap length (put_found file c.args.line.now hash c.push-2.new.self.items c.requires.text c.requires.line c.in_ok-hash.ensures.printed is)
    ∙ length-append (lines_in file) ((c.args.line.now ++ 32 ∷ hash) ∷ [])
