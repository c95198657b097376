-- Each arm tries the words that begin with its byte, and the last has none to try.
use Rattle.std.proofs.Common.{arith, ◌≡◌, refl, sym, ap, ◌∙◌, ℕ, List, [], true, get_or, rules, Option}
use Rattle.spec_text.specs.Bytes.{Bytes, bytes}
use Rattle.read_fields.specs.declared.Cursor.{Cursor}
use Rattle.read_words.specs.WordsModel.{kind_from}
use Rattle.read_words.specs.declared.Kind.{Kind}
use Rattle.read_words.proofs.Keys.{Unlike}
use Rattle.read_words.proofs.Letters.{Tried, none, or, listed, by_letter, no_letter}
use Rattle.read_words.proofs.kind_of.Goals as goal

-- the byte is b, and the words that begin with b were tried
arm : (s : Bytes) (d : Cursor) {x b : ℕ} {ns : List ℕ} {k : Option Kind} → x ≡ get_or s d.at 0 → x ≡ b → listed ns b ≡ true → Tried s d ns k → k ≡ kind_from s d
arm s d {ns = ns} {k = k} a e h t = by_letter ns s d k (ap (listed ns) (sym a ∙ e) ∙ h) t

-- 'a'
pub returns-in-97 : goal.returns-in-97
returns-in-97 c = arm c.args.text.now c.args.c c.byte_at.ensures c.in-97.is refl (or 15 (or 6 {l = c.word.result} none (search rules)) (search rules))

-- 'b'
pub returns-in-98 : goal.returns-in-98
returns-in-98 c = arm c.args.text.now c.args.c c.byte_at.ensures c.in-98.is refl (or 2 (or 19 {l = c.word-in-98.result} none (search rules)) (search rules))

-- 'c'
pub returns-in-99 : goal.returns-in-99
returns-in-99 c = arm c.args.text.now c.args.c c.byte_at.ensures c.in-99.is refl (or 3 {k = c.or_else-in-99.result} (or 13 (or 21 {l = c.word-in-99.result} none (search rules)) (search rules)) (search rules))

-- 'd'
pub returns-in-100 : goal.returns-in-100
returns-in-100 c = arm c.args.text.now c.args.c c.byte_at.ensures c.in-100.is refl (or 27 (or 5 {l = c.word-in-100.result} none (search rules)) (search rules))

-- 'e'
pub returns-in-101 : goal.returns-in-101
returns-in-101 c = arm c.args.text.now c.args.c c.byte_at.ensures c.in-101.is refl (or 8 (or 12 {l = c.word-in-101.result} none (search rules)) (search rules))

-- 'f'
pub returns-in-102 : goal.returns-in-102
returns-in-102 c = arm c.args.text.now c.args.c c.byte_at.ensures c.in-102.is refl (or 10 {l = c.word-in-102.result} none (search rules))

-- 'g'
pub returns-in-103 : goal.returns-in-103
returns-in-103 c = arm c.args.text.now c.args.c c.byte_at.ensures c.in-103.is refl (or 1 (or 22 {l = c.word-in-103.result} none (search rules)) (search rules))

-- 'i'
pub returns-in-105 : goal.returns-in-105
returns-in-105 c = arm c.args.text.now c.args.c c.byte_at.ensures c.in-105.is refl (or 20 (or 7 {l = c.word-in-105.result} none (search rules)) (search rules))

-- 'l'
pub returns-in-108 : goal.returns-in-108
returns-in-108 c = arm c.args.text.now c.args.c c.byte_at.ensures c.in-108.is refl (or 28 {k = c.or_else-in-108.result} (or 23 (or 16 {l = c.word-in-108.result} none (search rules)) (search rules)) (search rules))

-- 'm'
pub returns-in-109 : goal.returns-in-109
returns-in-109 c = arm c.args.text.now c.args.c c.byte_at.ensures c.in-109.is refl (or 14 {l = c.word-in-109.result} none (search rules))

-- 'p'
pub returns-in-112 : goal.returns-in-112
returns-in-112 c = arm c.args.text.now c.args.c c.byte_at.ensures c.in-112.is refl (or 4 {l = c.word-in-112.result} none (search rules))

-- 'r'
pub returns-in-114 : goal.returns-in-114
returns-in-114 c = arm c.args.text.now c.args.c c.byte_at.ensures c.in-114.is refl (or 11 {l = c.word-in-114.result} none (search rules))

-- 's'
pub returns-in-115 : goal.returns-in-115
returns-in-115 c = arm c.args.text.now c.args.c c.byte_at.ensures c.in-115.is refl (or 25 {l = c.word-in-115.result} none (search rules))

-- 't'
pub returns-in-116 : goal.returns-in-116
returns-in-116 c = arm c.args.text.now c.args.c c.byte_at.ensures c.in-116.is refl (or 26 {k = c.or_else-in-116.result} (or 0 (or 24 {l = c.word-in-116.result} none (search rules)) (search rules)) (search rules))

-- 'u'
pub returns-in-117 : goal.returns-in-117
returns-in-117 c = arm c.args.text.now c.args.c c.byte_at.ensures c.in-117.is refl (or 18 {l = c.word-in-117.result} none (search rules))

-- 'v'
pub returns-in-118 : goal.returns-in-118
returns-in-118 c = arm c.args.text.now c.args.c c.byte_at.ensures c.in-118.is refl (or 17 {l = c.word-in-118.result} none (search rules))

-- 'w'
pub returns-in-119 : goal.returns-in-119
returns-in-119 c = arm c.args.text.now c.args.c c.byte_at.ensures c.in-119.is refl (or 9 {l = c.word-in-119.result} none (search rules))

-- any other byte
pub returns-in_default : goal.returns-in_default
returns-in_default c =
    let u : Unlike (bytes "wvutsrpmligfedcba") c.byte_at.result = (((((((((((((((((tt, λ e. omega arith), λ e. omega arith), λ e. omega arith), λ e. omega arith), λ e. omega arith), λ e. omega arith), λ e. omega arith), λ e. omega arith), λ e. omega arith), λ e. omega arith), λ e. omega arith), λ e. omega arith), λ e. omega arith), λ e. omega arith), λ e. omega arith), λ e. omega arith), λ e. omega arith) in
    by_letter [] c.args.text.now c.args.c _ (ap (listed []) (sym c.byte_at.ensures) ∙ no_letter (bytes "wvutsrpmligfedcba") c.byte_at.result refl u) none
