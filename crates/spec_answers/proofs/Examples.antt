-- Answers by computation: FORMAT.md's first text, the examples of its tables from 8 on, and the whole way
-- for a script of some 100 lines.
use Rattle.std.proofs.Common.{ℕ, ◌≡◌, refl, List, [], ◌∷◌, ◌++◌, map, length}
use Prim.Native.String.{String}
use Rattle.spec_text.specs.Bytes.{Bytes, bytes}
use Rattle.spec_answers.specs.Answers.{written, faulty, refused, check, Outcome, refusing, report, message, name, over}
use Rattle.spec_answers.specs.Printed.{printed}

namecheck_example : printed (bytes "tree\t0\t1\nexpr\t0\t7\ncall\t0\t7\t1\nvar\t0\t4\tprnt\nlit\t5\t6\n") ≡ bytes "fault\t9\t0\t7\tUndefined function: prnt\nfaults\t1\n"
namecheck_example = refl

-- ---- the table from 8 on: a text's first fault as a record, and its message
pub record Fault : Type 0 where
  pub text : String
  pub first : List ℕ
  pub words : String

abbrev fault : String → List ℕ → String → Fault
fault t r m = record { text = t; first = r; words = m }

abbrev pub table : List Fault
table =
    -- 8: y
    fault "tree\t0\t1\nexpr\t0\t1\nvar\t0\t1\ty\n" (8 ∷ 0 ∷ 1 ∷ 26 ∷ 1 ∷ 0 ∷ 0 ∷ []) "Undefined variable: y"
    -- 9: y()
    ∷ fault "tree\t0\t1\nexpr\t0\t3\ncall\t0\t3\t0\nvar\t0\t1\ty\n" (9 ∷ 0 ∷ 3 ∷ 37 ∷ 1 ∷ 0 ∷ 0 ∷ []) "Undefined function: y"
    -- 10: lambda: y
    ∷ fault "tree\t0\t1\nexpr\t0\t9\nlambda\t0\t9\nvar\t8\t9\ty\n" (10 ∷ 0 ∷ 9 ∷ 37 ∷ 1 ∷ 0 ∷ 0 ∷ []) "Undefined variable 'y' captured by lambda"
    -- 11: in a def, x, then x = 1
    ∷ fault "tree\t0\t1\ndef\t0\t30\tf\t2\nexpr\t9\t10\nvar\t9\t10\tx\nassign\t12\t17\nlit\t16\t17\nvar\t12\t13\tx\n" (11 ∷ 9 ∷ 10 ∷ 41 ∷ 1 ∷ 0 ∷ 0 ∷ []) "Unbound local variable: x"
    -- 12: in a def, x(), then x = 1
    ∷ fault "tree\t0\t1\ndef\t0\t30\tf\t2\nexpr\t9\t12\ncall\t9\t12\t0\nvar\t9\t10\tx\nassign\t14\t19\nlit\t18\t19\nvar\t14\t15\tx\n" (12 ∷ 9 ∷ 12 ∷ 53 ∷ 1 ∷ 0 ∷ 0 ∷ []) "Unbound local function: x"
    -- 13: in a def, lambda: x, then x = 1
    ∷ fault "tree\t0\t1\ndef\t0\t40\tf\t2\nexpr\t9\t18\nlambda\t9\t18\nvar\t17\t18\tx\nassign\t20\t25\nlit\t24\t25\nvar\t20\t21\tx\n" (13 ∷ 9 ∷ 18 ∷ 54 ∷ 1 ∷ 0 ∷ 0 ∷ []) "Unbound local variable 'x' captured by lambda"
    -- 14: 1 = 2
    ∷ fault "tree\t0\t1\nassign\t0\t5\nlit\t4\t5\nlit\t0\t1\n" (14 ∷ 0 ∷ 1 ∷ 0 ∷ 0 ∷ 0 ∷ 0 ∷ []) "Invalid assignment target: cannot assign to literal, call, or expression"
    -- 15: def m(): in a class
    ∷ fault "tree\t0\t1\nclass\t0\t30\tOven\t1\t0\nmethod\tramp\t1\npass\t20\t24\n" (15 ∷ 0 ∷ 30 ∷ 36 ∷ 4 ∷ 20 ∷ 4 ∷ []) "Method 'ramp' in class 'Oven' must have 'self' as first parameter"
    ∷ []

pub table_check : map (λ (f : Fault). check (bytes f.text) 16_384) table ≡ map (λ (f : Fault). faulty f.first) table
table_check = refl

-- what is written, so many numbers or bytes of it
abbrev wrote : ℕ → List ℕ → Outcome
wrote n ns = record { answer = written n; writes = ns }

abbrev said : String → Outcome
said s = wrote (length (bytes s)) (bytes s)

pub table_message : map (λ (f : Fault). message (bytes f.text) 16_384 0 100) table ≡ map (λ (f : Fault). said f.words) table
table_message = refl

-- ---- 16 to 18
abbrev y : Bytes
y = bytes "tree\t0\t1\nexpr\t0\t1\nvar\t0\t1\ty\n"

abbrev pass : Bytes
pass = bytes "tree\t0\t1\npass\t0\t4\n"

report_16 : report y 16_384 6 ≡ refusing (refused 16 (1 ∷ []))
report_16 = refl

report_7_numbers : report y 16_384 7 ≡ wrote 1 (8 ∷ 0 ∷ 1 ∷ 26 ∷ 1 ∷ 0 ∷ 0 ∷ [])
report_7_numbers = refl

pub message_17 : message pass 16_384 0 0 ≡ refusing (refused 17 [])
message_17 = refl

message_18 : message y 16_384 0 20 ≡ refusing (refused 18 [])
message_18 = refl

message_21_bytes : message y 16_384 0 21 ≡ said "Undefined variable: y"
message_21_bytes = refl

-- 17 before 18, and a refusal before both
message_order : message y 16_384 1 0 ≡ refusing (refused 17 [])
message_order = refl

message_refused : message [] 16_384 0 0 ≡ refusing (refused 3 (1 ∷ []))
message_refused = refl

-- the name of a fault; of none, of kind 14, of a refused text
name_y : name y 16_384 0 ≡ record { offset = 26; bytes = bytes "y" }
name_y = refl

name_none : (name y 16_384 1 ≡ record { offset = 0; bytes = [] }) × (name [] 16_384 0 ≡ record { offset = 0; bytes = [] })
name_none = (refl, refl)

-- what stands past what is written
over_example : over (1 ∷ 2 ∷ []) (7 ∷ 8 ∷ 9 ∷ []) ≡ 1 ∷ 2 ∷ 9 ∷ []
over_example = refl

-- ---- a script of 112 lines, examples/oven.tree, and what is printed of it
abbrev joined : List String → Bytes
joined [] = []
joined (s ∷ ss) = bytes s ++ joined ss

abbrev pub oven : List String
oven =
    "tree\t2\t6\nglobal\tport\nglobal\tvials\nclass\t0\t273\tOven\t3\t1\nmethod\t__init__\t2\tself\tport\nassign\t66\t82\nvar\t78\t82\tport\n"
    ∷ "get\t66\t75\tport\nvar\t66\t70\tself\nassign\t91\t105\nlit\t103\t105\nget\t91\t100\ttemp\nvar\t91\t95\tself\nmethod\tramp\t1\tself\tto\trate\n"
    ∷ "while\t144\t234\t2\nbin\t150\t164\nget\t150\t159\ttemp\nvar\t150\t154\tself\nvar\t162\t164\tto\nassign\t178\t206\nbin\t190\t206\nget\t190\t199\ttemp\n"
    ∷ "var\t190\t194\tself\nvar\t202\t206\trate\nget\t178\t187\ttemp\nvar\t178\t182\tself\nexpr\t219\t234\ncall\t219\t234\t1\nvar\t219\t223\thold\n"
    ∷ "get\t224\t233\ttemp\nvar\t224\t228\tself\nmethod\tcool\t1\nassign\t259\t273\nlit\t271\t273\nget\t259\t268\ttemp\nvar\t259\t263\tself\nattr\tlimit\n"
    ∷ "lit\t24\t27\nassign\t274\t291\ncall\t281\t291\t1\nvar\t281\t285\tOven\nvar\t286\t290\tport\nvar\t274\t278\toven\nassign\t292\t333\nlist\t300\t333\t3\n"
    ∷ "tuple\t301\t308\t2\nlit\t302\t304\nlit\t306\t307\ntuple\t310\t319\t2\nlit\t311\t314\nlit\t316\t318\ntuple\t321\t332\t2\nvar\t322\t327\tlimit\n"
    ∷ "lit\t329\t331\nvar\t292\t297\tsteps\ndef\t334\t487\trun\t4\tvial\nexpr\t353\t370\ncall\t353\t370\t2\nvar\t353\t358\tprint\nvar\t359\t363\tvial\n"
    ∷ "var\t365\t369\tarea\nfor\t375\t429\tstep\t1\nvar\t387\t392\tsteps\nexpr\t402\t429\ncall\t402\t429\t2\nget\t402\t411\tramp\nvar\t402\t406\toven\n"
    ∷ "index\t412\t419\nvar\t412\t416\tstep\nlit\t417\t418\nindex\t421\t428\nvar\t421\t425\tstep\nlit\t426\t427\nassign\t434\t471\ncall\t441\t471\t2\n"
    ∷ "var\t441\t444\tmap\nlambda\t445\t463\tp\nbin\t455\t463\nvar\t455\t456\tp\nvar\t459\t463\tgain\nvar\t465\t470\tpeaks\nvar\t434\t438\tarea\n"
    ∷ "return\t476\t487\nvar\t483\t487\tarea\nfor\t488\t619\tvial\t2\ncall\t500\t515\t2\nvar\t500\t505\trange\nlit\t506\t507\nvar\t509\t514\tvials\n"
    ∷ "assign\t521\t539\ncall\t530\t539\t1\nvar\t530\t533\trun\nvar\t534\t538\tvial\nvar\t521\t527\tresult\nif\t544\t619\t1\t1\t0\nbin\t547\t557\n"
    ∷ "var\t547\t553\tresult\nlit\t556\t557\nexpr\t567\t586\ncall\t567\t586\t2\nvar\t567\t572\tprint\nvar\t573\t577\tvial\nvar\t579\t585\tresult\n"
    ∷ "elif\t1\nvar\t596\t601\tretry\ncontinue\t611\t619\nexpr\t620\t638\ncall\t620\t638\t1\nvar\t620\t624\tprnt\ncall\t625\t637\t1\nvar\t625\t628\tlen\n"
    ∷ "var\t629\t636\tresults\n"
    ∷ []

abbrev pub oven_printed : List String
oven_printed =
    "fault\t9\t219\t234\tUndefined function: hold\nfault\t15\t0\t273\tMethod 'cool' in class 'Oven' must have 'self' as first parameter\n"
    ∷ "fault\t8\t259\t263\tUndefined variable: self\nfault\t8\t322\t327\tUndefined variable: limit\nfault\t11\t365\t369\tUnbound local variable: area\n"
    ∷ "fault\t8\t459\t463\tUndefined variable: gain\nfault\t8\t465\t470\tUndefined variable: peaks\nfault\t8\t596\t601\tUndefined variable: retry\n"
    ∷ "fault\t9\t620\t638\tUndefined function: prnt\nfault\t8\t629\t636\tUndefined variable: results\nfaults\t10\n"
    ∷ []

pub oven_printed_lem : printed (joined oven) ≡ joined oven_printed
oven_printed_lem = refl
