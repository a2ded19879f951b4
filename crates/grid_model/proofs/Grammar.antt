-- The grammar of scripts: faulty lines, and what is allowed.
use Rattle.std.specs.Prelude.{◌≡◌, ◌∷◌, ◌++◌, [], codes, refl}
use Rattle.grid_model.specs.Computing.{computing}
use Rattle.grid_model.specs.Transcripts.{prints, Prints, Faults, Several}

grammar-two-clients : prints (record { k = 1; capacity = 2; pages = 64; slots = 8; boundaries = 1000; cells = 1000000 }) (codes "put 1 -\nclient 2\nget 1\n")
    ≡ Several
unfolding computing
grammar-two-clients = refl

grammar-leading-zero : prints (record { k = 2; capacity = 2; pages = 64; slots = 8; boundaries = 1000; cells = 1000000 }) (codes "put 1,1 -\nput 01,1 -\n")
    ≡ Faults 2
unfolding computing
grammar-leading-zero = refl

grammar-two-zeros : prints (record { k = 1; capacity = 2; pages = 64; slots = 8; boundaries = 1000; cells = 1000000 }) (codes "get 0\nget 00\n")
    ≡ Faults 2
unfolding computing
grammar-two-zeros = refl

grammar-number-too-large : prints (record { k = 1; capacity = 2; pages = 64; slots = 8; boundaries = 1000; cells = 1000000 }) (codes "get 18446744073709551615\nget 18446744073709551616\n")
    ≡ Faults 2
unfolding computing
grammar-number-too-large = refl

grammar-bound-too-large : prints (record { k = 1; capacity = 2; pages = 64; slots = 8; boundaries = 1000; cells = 1000000 }) (codes "count 0..18446744073709551616\n")
    ≡ Faults 1
unfolding computing
grammar-bound-too-large = refl

grammar-odd-digits : prints (record { k = 1; capacity = 2; pages = 64; slots = 8; boundaries = 1000; cells = 1000000 }) (codes "put 1 abc\n")
    ≡ Faults 1
unfolding computing
grammar-odd-digits = refl

grammar-eighty-two-digits : prints (record { k = 1; capacity = 2; pages = 64; slots = 8; boundaries = 1000; cells = 1000000 }) (codes "stat\nput 1 0f0f0f0f0f0f0f0f0f0f0f0f0f0f0f0f0f0f0f0f0f0f0f0f0f0f0f0f0f0f0f0f0f0f0f0f0f0f0f0f0f\n")
    ≡ Faults 2
unfolding computing
grammar-eighty-two-digits = refl

grammar-no-hexadecimal-digit : prints (record { k = 1; capacity = 2; pages = 64; slots = 8; boundaries = 1000; cells = 1000000 }) (codes "put 1 0g\n")
    ≡ Faults 1
unfolding computing
grammar-no-hexadecimal-digit = refl

grammar-two-dashes : prints (record { k = 1; capacity = 2; pages = 64; slots = 8; boundaries = 1000; cells = 1000000 }) (codes "put 1 -\nput 2 --\n")
    ≡ Faults 2
unfolding computing
grammar-two-dashes = refl

grammar-low-above-high : prints (record { k = 2; capacity = 2; pages = 64; slots = 8; boundaries = 1000; cells = 1000000 }) (codes "count *,4..4\nlist *,5..4\n")
    ≡ Faults 2
unfolding computing
grammar-low-above-high = refl

grammar-three-dots : prints (record { k = 1; capacity = 2; pages = 64; slots = 8; boundaries = 1000; cells = 1000000 }) (codes "list 1...2\n")
    ≡ Faults 1
unfolding computing
grammar-three-dots = refl

grammar-range-without-low : prints (record { k = 1; capacity = 2; pages = 64; slots = 8; boundaries = 1000; cells = 1000000 }) (codes "list ..5\n")
    ≡ Faults 1
unfolding computing
grammar-range-without-low = refl

grammar-range-without-high : prints (record { k = 1; capacity = 2; pages = 64; slots = 8; boundaries = 1000; cells = 1000000 }) (codes "list 0..0\nlist 5..\n")
    ≡ Faults 2
unfolding computing
grammar-range-without-high = refl

grammar-range-with-star : prints (record { k = 1; capacity = 2; pages = 64; slots = 8; boundaries = 1000; cells = 1000000 }) (codes "list *..5\n")
    ≡ Faults 1
unfolding computing
grammar-range-with-star = refl

grammar-leading-zero-in-range : prints (record { k = 1; capacity = 2; pages = 64; slots = 8; boundaries = 1000; cells = 1000000 }) (codes "count 1..05\n")
    ≡ Faults 1
unfolding computing
grammar-leading-zero-in-range = refl

grammar-star-in-key : prints (record { k = 2; capacity = 2; pages = 64; slots = 8; boundaries = 1000; cells = 1000000 }) (codes "get 1,1\n\nget 1,*\n")
    ≡ Faults 3
unfolding computing
grammar-star-in-key = refl

grammar-range-in-key : prints (record { k = 1; capacity = 2; pages = 64; slots = 8; boundaries = 1000; cells = 1000000 }) (codes "remove 1..1\n")
    ≡ Faults 1
unfolding computing
grammar-range-in-key = refl

grammar-tab-between-words : prints (record { k = 1; capacity = 2; pages = 64; slots = 8; boundaries = 1000; cells = 1000000 }) (codes "put 1\t-\n")
    ≡ Faults 1
unfolding computing
grammar-tab-between-words = refl

grammar-byte-13-in-mid-line : prints (record { k = 1; capacity = 2; pages = 64; slots = 8; boundaries = 1000; cells = 1000000 }) (codes "stat\nget\r1\n")
    ≡ Faults 2
unfolding computing
grammar-byte-13-in-mid-line = refl

grammar-two-bytes-13 : prints (record { k = 1; capacity = 2; pages = 64; slots = 8; boundaries = 1000; cells = 1000000 }) (codes "stat\r\nstat\r\r\n")
    ≡ Faults 2
unfolding computing
grammar-two-bytes-13 = refl

grammar-byte-13-before-space : prints (record { k = 1; capacity = 2; pages = 64; slots = 8; boundaries = 1000; cells = 1000000 }) (codes "stat\r \n")
    ≡ Faults 1
unfolding computing
grammar-byte-13-before-space = refl

grammar-upper-case : prints (record { k = 1; capacity = 2; pages = 64; slots = 8; boundaries = 1000; cells = 1000000 }) (codes "stat\n# upper case\nSTAT\n")
    ≡ Faults 3
unfolding computing
grammar-upper-case = refl

grammar-client-0 : prints (record { k = 1; capacity = 2; pages = 64; slots = 8; boundaries = 1000; cells = 1000000 }) (codes "client 1\nclient 0\n")
    ≡ Faults 2
unfolding computing
grammar-client-0 = refl

grammar-client-17 : prints (record { k = 1; capacity = 2; pages = 64; slots = 8; boundaries = 1000; cells = 1000000 }) (codes "client 17\n")
    ≡ Faults 1
unfolding computing
grammar-client-17 = refl

grammar-client-01 : prints (record { k = 1; capacity = 2; pages = 64; slots = 8; boundaries = 1000; cells = 1000000 }) (codes "client 01\nstat\n")
    ≡ Faults 1
unfolding computing
grammar-client-01 = refl

grammar-client-without-number : prints (record { k = 1; capacity = 2; pages = 64; slots = 8; boundaries = 1000; cells = 1000000 }) (codes "stat\n\nclient\n")
    ≡ Faults 3
unfolding computing
grammar-client-without-number = refl

grammar-client-with-two-numbers : prints (record { k = 1; capacity = 2; pages = 64; slots = 8; boundaries = 1000; cells = 1000000 }) (codes "client 1 1\n")
    ≡ Faults 1
unfolding computing
grammar-client-with-two-numbers = refl

grammar-put-without-data : prints (record { k = 2; capacity = 2; pages = 64; slots = 8; boundaries = 1000; cells = 1000000 }) (codes "put 1,1\n")
    ≡ Faults 1
unfolding computing
grammar-put-without-data = refl

grammar-put-with-three-words : prints (record { k = 1; capacity = 2; pages = 64; slots = 8; boundaries = 1000; cells = 1000000 }) (codes "put 1 - -\n")
    ≡ Faults 1
unfolding computing
grammar-put-with-three-words = refl

grammar-get-without-key : prints (record { k = 1; capacity = 2; pages = 64; slots = 8; boundaries = 1000; cells = 1000000 }) (codes "get\n")
    ≡ Faults 1
unfolding computing
grammar-get-without-key = refl

grammar-stat-with-word : prints (record { k = 1; capacity = 2; pages = 64; slots = 8; boundaries = 1000; cells = 1000000 }) (codes "stat\nstat\nstat 1\n")
    ≡ Faults 3
unfolding computing
grammar-stat-with-word = refl

grammar-comment-after-words : prints (record { k = 1; capacity = 2; pages = 64; slots = 8; boundaries = 1000; cells = 1000000 }) (codes "checkpoint # now\n")
    ≡ Faults 1
unfolding computing
grammar-comment-after-words = refl

grammar-too-few-numbers : prints (record { k = 3; capacity = 2; pages = 64; slots = 8; boundaries = 1000; cells = 1000000 }) (codes "get 1,2,3\nget 1,2\n")
    ≡ Faults 2
unfolding computing
grammar-too-few-numbers = refl

grammar-too-many-sides : prints (record { k = 2; capacity = 2; pages = 64; slots = 8; boundaries = 1000; cells = 1000000 }) (codes "list *,*\nlist *,*,*\n")
    ≡ Faults 2
unfolding computing
grammar-too-many-sides = refl

grammar-empty-number : prints (record { k = 3; capacity = 2; pages = 64; slots = 8; boundaries = 1000; cells = 1000000 }) (codes "get 1,,3\n")
    ≡ Faults 1
unfolding computing
grammar-empty-number = refl

grammar-comma-at-end : prints (record { k = 2; capacity = 2; pages = 64; slots = 8; boundaries = 1000; cells = 1000000 }) (codes "get 1,2,\n")
    ≡ Faults 1
unfolding computing
grammar-comma-at-end = refl

grammar-space-in-key : prints (record { k = 2; capacity = 2; pages = 64; slots = 8; boundaries = 1000; cells = 1000000 }) (codes "get 1, 2\n")
    ≡ Faults 1
unfolding computing
grammar-space-in-key = refl

grammar-sign : prints (record { k = 1; capacity = 2; pages = 64; slots = 8; boundaries = 1000; cells = 1000000 }) (codes "get +1\n")
    ≡ Faults 1
unfolding computing
grammar-sign = refl

grammar-byte-200-in-key : prints (record { k = 2; capacity = 2; pages = 64; slots = 8; boundaries = 1000; cells = 1000000 }) (codes "put " ++ (200 ∷ codes ",1 -\n"))
    ≡ Faults 1
unfolding computing
grammar-byte-200-in-key = refl

grammar-byte-255-alone : prints (record { k = 1; capacity = 2; pages = 64; slots = 8; boundaries = 1000; cells = 1000000 }) (codes "# " ++ (255 ∷ (codes "\n" ++ (255 ∷ []))))
    ≡ Faults 2
unfolding computing
grammar-byte-255-alone = refl

grammar-first-of-two-faults : prints (record { k = 1; capacity = 2; pages = 64; slots = 8; boundaries = 1000; cells = 1000000 }) (codes "stat\n\n# note\nget x\nput y\n")
    ≡ Faults 4
unfolding computing
grammar-first-of-two-faults = refl

grammar-unknown-word-at-end : prints (record { k = 1; capacity = 2; pages = 64; slots = 8; boundaries = 1000; cells = 1000000 }) (codes "stat\nstats")
    ≡ Faults 2
unfolding computing
grammar-unknown-word-at-end = refl

grammar-byte-13-at-ends : prints (record { k = 2; capacity = 2; pages = 64; slots = 8; boundaries = 1000; cells = 1000000 }) (codes "put 1,2 0a\r\nget 1,2\r\nget 2,1\r")
    ≡ Prints (codes "client 1\n@1 new\n@1 = 0a\n@1 none\nfront 1\n")
unfolding computing
grammar-byte-13-at-ends = refl

grammar-comments : prints (record { k = 1; capacity = 2; pages = 64; slots = 8; boundaries = 1000; cells = 1000000 }) (codes "# note\n  #more\n#stat\n#a\rb\tc \"d\\e\"\nstat\n#")
    ≡ Prints (codes "client 1\n@0 stat records 0 cells 1 buckets 1 free 62\nfront 0\n")
unfolding computing
grammar-comments = refl

grammar-comment-with-bytes : prints (record { k = 1; capacity = 2; pages = 64; slots = 8; boundaries = 1000; cells = 1000000 }) (codes "# " ++ (195 ∷ (169 ∷ (codes "t" ++ (195 ∷ (169 ∷ (codes "\nstat\n#" ++ (255 ∷ (255 ∷ codes "\n")))))))))
    ≡ Prints (codes "client 1\n@0 stat records 0 cells 1 buckets 1 free 62\nfront 0\n")
unfolding computing
grammar-comment-with-bytes = refl

grammar-empty-lines : prints (record { k = 1; capacity = 2; pages = 64; slots = 8; boundaries = 1000; cells = 1000000 }) (codes "\n\n   \n\r\n \r\nstat\n\n")
    ≡ Prints (codes "client 1\n@0 stat records 0 cells 1 buckets 1 free 62\nfront 0\n")
unfolding computing
grammar-empty-lines = refl

grammar-several-spaces : prints (record { k = 2; capacity = 2; pages = 64; slots = 8; boundaries = 1000; cells = 1000000 }) (codes "  put   1,2    0A  \n get 1,2 \n   stat  \r\n")
    ≡ Prints (codes "client 1\n@1 new\n@1 = 0a\n@1 stat records 1 cells 1 buckets 1 free 61\nfront 1\n")
unfolding computing
grammar-several-spaces = refl

grammar-no-byte-10-at-end : prints (record { k = 1; capacity = 2; pages = 64; slots = 8; boundaries = 1000; cells = 1000000 }) (codes "put 1 -\nget 1")
    ≡ Prints (codes "client 1\n@1 new\n@1 = -\nfront 1\n")
unfolding computing
grammar-no-byte-10-at-end = refl

grammar-client-2 : prints (record { k = 1; capacity = 2; pages = 64; slots = 8; boundaries = 1000; cells = 1000000 }) (codes "client 2\nput 7 07\nclient 2\nget 7\n")
    ≡ Prints (codes "client 2\n@1 new\n@1 = 07\nfront 1\n")
unfolding computing
grammar-client-2 = refl

grammar-client-without-lines : prints (record { k = 1; capacity = 2; pages = 64; slots = 8; boundaries = 1000; cells = 1000000 }) (codes "stat\nclient 16\nclient 3\n")
    ≡ Prints (codes "client 1\n@0 stat records 0 cells 1 buckets 1 free 62\nfront 0\n")
unfolding computing
grammar-client-without-lines = refl

grammar-client-line-alone : prints (record { k = 1; capacity = 2; pages = 64; slots = 8; boundaries = 1000; cells = 1000000 }) (codes "client 5\n")
    ≡ Prints (codes "front 0\n")
unfolding computing
grammar-client-line-alone = refl

grammar-largest-number : prints (record { k = 1; capacity = 2; pages = 64; slots = 8; boundaries = 1000; cells = 1000000 }) (codes "put 18446744073709551615 ff\nlist 18446744073709551615..18446744073709551615\ncount 0..18446744073709551614\nremove 18446744073709551615\n")
    ≡ Prints (codes "client 1\n@1 new\n@1 rows 1\n18446744073709551615 ff\n@1 count 0\n@2 gone ff\nfront 2\n")
unfolding computing
grammar-largest-number = refl

grammar-eighty-digits : prints (record { k = 1; capacity = 2; pages = 64; slots = 8; boundaries = 1000; cells = 1000000 }) (codes "put 0 aBcDeF0123aBcDeF0123aBcDeF0123aBcDeF0123aBcDeF0123aBcDeF0123aBcDeF0123aBcDeF0123\nget 0\nput 0 -\n")
    ≡ Prints (codes "client 1\n@1 new\n@1 = abcdef0123abcdef0123abcdef0123abcdef0123abcdef0123abcdef0123abcdef0123abcdef0123\n@2 old abcdef0123abcdef0123abcdef0123abcdef0123abcdef0123abcdef0123abcdef0123abcdef0123\nfront 2\n")
unfolding computing
grammar-eighty-digits = refl

grammar-sides-of-all-forms : prints (record { k = 3; capacity = 2; pages = 64; slots = 8; boundaries = 1000; cells = 1000000 }) (codes "put 1,2,3 aB\nlist 1,*,0..3\ncount *,*,*\nlist 1..1,2..2,4\nput 0,9,9 00\nlist 0..1,*,*\n")
    ≡ Prints (codes "client 1\n@1 new\n@1 rows 1\n1,2,3 ab\n@1 count 1\n@1 rows 0\n@2 new\n@2 rows 2\n0,9,9 00\n1,2,3 ab\nfront 2\n")
unfolding computing
grammar-sides-of-all-forms = refl
