-- Scripts that tell a slip in a rule, and which.
-- told-cells-strictly-below: cells strictly below M
-- told-no-root-step-for-slots: no root step where the slots are used
-- told-value-before-attribute: ties by value before attribute
-- told-spare-page-for-remove: a spare page for a remove
-- told-above-before-below: above before below in a merge
-- told-turn-of-the-other: the turn of the other box after a merge
-- told-interval-below: interval counts boundaries below, not at most
-- told-higher-number-survives: the higher number survives a merge
-- told-parts-of-the-moved-box: the parts of a cut or merge are all, one, or those of another box
-- told-parts-of-the-refined-directory: a refinement needs the old parts, or one
-- told-thousand-cells-per-part: the cell at place 1000 lies in part 0
-- told-seven-tenths-of-ten: the merge bound is 6 or 8 tenths
-- told-seven-tenths-rounded-down: the merge bound is rounded up
-- told-cells-after-refinement: the cells before a refinement are compared with M
-- told-next-attribute-within-cells: only the first attribute with a usable value is tried
-- told-least-difference: the first existing boundary that divides is taken
-- No script tells that an existing boundary outside the region is taken: a boundary that divides the box's
-- records is above the least and at most the greatest of their values, so it lies inside the region.
-- No script tells that of equal rank the last is taken: two candidates of equal rank are one and the same cut.
use Rattle.std.specs.Prelude.{◌≡◌, codes, refl}
use Rattle.grid_model.specs.Computing.{computing}
use Rattle.grid_model.specs.Transcripts.{prints, Prints}

told-cells-strictly-below : prints (record { k = 1; capacity = 2; pages = 20; slots = 8; boundaries = 2; cells = 2 }) (codes "put 7 -\nput 6 -\nput 9 f2\n")
    ≡ Prints (codes "client 1\n@1 new\n@2 new\n@3 new\nfront 3\n")
unfolding computing
told-cells-strictly-below = refl

told-no-root-step-for-slots : prints (record { k = 1; capacity = 2; pages = 29; slots = 3; boundaries = 1000; cells = 1000000 }) (codes "put 7 da\nput 5 02\nput 0 f1\nremove 0\nstat\n")
    ≡ Prints (codes "client 1\n@1 new\n@2 new\n@3 new\n@4 gone f1\n@4 stat records 2 cells 2 buckets 2 free 25\nfront 4\n")
unfolding computing
told-no-root-step-for-slots = refl

told-value-before-attribute : prints (record { k = 3; capacity = 2; pages = 26; slots = 12; boundaries = 1000; cells = 1000000 }) (codes "put 1,2,2 0f\nput 2,1,1 40\nput 0,2,1 c0\nput 2,1,0 4f\nput 1,1,2 7f\nput 0,1,1 41\nput 0,2,0 d4\nremove 1,2,2\nremove 0,2,0\nstat\n")
    ≡ Prints (codes "client 1\n@1 new\n@2 new\n@3 new\n@4 new\n@5 new\n@6 new\n@7 new\n@8 gone 0f\n@9 gone d4\n@9 stat records 5 cells 8 buckets 4 free 19\nfront 9\n")
unfolding computing
told-value-before-attribute = refl

told-spare-page-for-remove : prints (record { k = 1; capacity = 2; pages = 10; slots = 12; boundaries = 1000; cells = 1000000 }) (codes "put 0 7a\nput 6 0f\nput 5 b8\nput 11 c2\nput 8 e1\nput 10 fb\nremove 0\nstat\n")
    ≡ Prints (codes "client 1\n@1 new\n@2 new\n@3 new\n@4 new\n@5 new\n@6 new\n@7 gone 7a\n@7 stat records 5 cells 5 buckets 4 free 1\nfront 7\n")
unfolding computing
told-spare-page-for-remove = refl

told-above-before-below : prints (record { k = 1; capacity = 2; pages = 31; slots = 4; boundaries = 1000; cells = 1000000 }) (codes "put 1 9d\nput 4 34\nput 5 6f\nput 6 81\nremove 6\nremove 4\nstat\n")
    ≡ Prints (codes "client 1\n@1 new\n@2 new\n@3 new\n@4 new\n@5 gone 81\n@6 gone 34\n@6 stat records 2 cells 3 buckets 2 free 24\nfront 6\n")
unfolding computing
told-above-before-below = refl

told-turn-of-the-other : prints (record { k = 3; capacity = 2; pages = 11; slots = 2; boundaries = 1000; cells = 1000000 }) (codes "put 1,1,0 bf\nput 0,1,1 e5\nput 2,1,0 f3\nput 2,2,2 5f\nput 2,0,1 c8\nput 1,2,2 dc\nremove 2,2,2\nremove 1,1,0\nremove 2,1,0\nremove 1,2,2\nput 1,0,1 12\nput 2,0,2 42\nremove 1,0,1\nstat\n")
    ≡ Prints (codes "client 1\n@1 new\n@2 new\n@3 new\n@4 new\n@5 new\n@6 new\n@7 gone 5f\n@8 gone bf\n@9 gone f3\n@10 gone dc\n@11 new\n@12 new\n@13 gone 12\n@13 stat records 3 cells 12 buckets 3 free 6\nfront 13\n")
unfolding computing
told-turn-of-the-other = refl

told-interval-below : prints (record { k = 4; capacity = 2; pages = 64; slots = 64; boundaries = 1000; cells = 1000000 }) (codes "put 1,1,1,1 -\nput 2,2,2,2 -\nput 3,3,3,3 -\nput 4,4,4,4 -\nput 5,5,5,5 -\nput 6,6,6,6 -\nput 7,7,7,7 -\nput 8,8,8,8 -\nput 9,9,9,9 -\nput 10,10,10,10 -\nput 11,11,11,11 -\nput 12,12,12,12 -\nput 13,13,13,13 -\nput 14,14,14,14 -\nput 15,15,15,15 -\nput 16,16,16,16 -\nput 17,17,17,17 -\nput 18,18,18,18 -\nput 19,19,19,19 -\nput 20,20,20,20 -\nput 21,21,21,21 -\nput 22,22,22,22 -\nput 18,18,21,18 -\ncheckpoint\nput 18,18,22,18 -\nstat\n")
    ≡ Prints (codes "client 1\n@1 new\n@2 new\n@3 new\n@4 new\n@5 new\n@6 new\n@7 new\n@8 new\n@9 new\n@10 new\n@11 new\n@12 new\n@13 new\n@14 new\n@15 new\n@16 new\n@17 new\n@18 new\n@19 new\n@20 new\n@21 new\n@22 new\n@23 new\n@23 rooted\n@24 new\n@24 stat records 24 cells 1296 buckets 22 free 38\nfront 24\n")
unfolding computing
told-interval-below = refl

told-higher-number-survives : prints (record { k = 4; capacity = 2; pages = 64; slots = 64; boundaries = 1000; cells = 1000000 }) (codes "put 1,1,1,1 -\nput 2,2,2,2 -\nput 3,3,3,3 -\nput 4,4,4,4 -\nput 5,5,5,5 -\nput 6,6,6,6 -\nput 7,7,7,7 -\nput 8,8,8,8 -\nput 9,9,9,9 -\nput 10,10,10,10 -\nput 11,11,11,11 -\nput 12,12,12,12 -\nput 13,13,13,13 -\nput 14,14,14,14 -\nput 15,15,15,15 -\nput 16,16,16,16 -\nput 17,17,17,17 -\nput 18,18,18,18 -\nput 19,19,19,19 -\nput 20,20,20,20 -\nput 21,21,21,21 -\ncheckpoint\nremove 20,20,20,20\nremove 21,21,21,21\nremove 18,18,18,18\nremove 19,19,19,19\nstat\n")
    ≡ Prints (codes "client 1\n@1 new\n@2 new\n@3 new\n@4 new\n@5 new\n@6 new\n@7 new\n@8 new\n@9 new\n@10 new\n@11 new\n@12 new\n@13 new\n@14 new\n@15 new\n@16 new\n@17 new\n@18 new\n@19 new\n@20 new\n@21 new\n@21 rooted\n@22 gone -\n@23 gone -\n@24 gone -\n@25 gone -\n@25 stat records 17 cells 1080 buckets 17 free 40\nfront 25\n")
unfolding computing
told-higher-number-survives = refl

told-parts-of-the-moved-box : prints (record { k = 4; capacity = 2; pages = 28; slots = 64; boundaries = 1000; cells = 1000000 }) (codes "put 1,1,1,1 -\nput 2,2,2,2 -\nput 3,3,3,3 -\nput 4,4,4,4 -\nput 5,5,5,5 -\nput 6,6,6,6 -\nput 7,7,7,7 -\nput 8,8,8,8 -\nput 9,9,9,9 -\nput 10,10,10,10 -\nput 11,11,11,11 -\nput 12,12,12,12 -\nput 13,13,13,13 -\nput 14,14,14,14 -\nput 15,15,15,15 -\nput 16,16,16,16 -\nput 17,17,17,17 -\nput 18,18,18,18 -\nput 19,19,19,19 -\nput 20,20,20,20 -\nput 21,21,21,21 -\nput 21,21,13,21 -\ncheckpoint\nremove 19,19,19,19\nput 8,17,22,22 -\nremove 20,20,20,20\nremove 21,21,21,21\nremove 17,17,17,17\nstat\nput 15,5,15,15 -\nput 20,3,20,20 -\nput 9,17,17,22 -\nput 22,21,12,22 -\nstat\n")
    ≡ Prints (codes "client 1\n@1 new\n@2 new\n@3 new\n@4 new\n@5 new\n@6 new\n@7 new\n@8 new\n@9 new\n@10 new\n@11 new\n@12 new\n@13 new\n@14 new\n@15 new\n@16 new\n@17 new\n@18 new\n@19 new\n@20 new\n@21 new\n@22 new\n@22 rooted\n@23 gone -\n@24 new\n@25 gone -\n@26 gone -\n@27 gone -\n@27 stat records 19 cells 1080 buckets 17 free 3\n@28 new\n@29 new\n@30 new\n@31 new\n@31 stat records 23 cells 1080 buckets 20 free 1\nfront 31\n")
unfolding computing
told-parts-of-the-moved-box = refl

told-parts-of-the-refined-directory : prints (record { k = 4; capacity = 2; pages = 26; slots = 64; boundaries = 1000; cells = 1000000 }) (codes "put 1,1,1,1 -\nput 2,2,2,2 -\nput 3,3,3,3 -\nput 4,4,4,4 -\nput 5,5,5,5 -\nput 6,6,6,6 -\nput 7,7,7,7 -\nput 8,8,8,8 -\nput 9,9,9,9 -\nput 10,10,10,10 -\nput 11,11,11,11 -\nput 12,12,12,12 -\nput 13,13,13,13 -\nput 14,14,14,14 -\nput 15,15,15,15 -\nput 16,16,16,16 -\nput 17,17,17,17 -\nput 18,18,18,18 -\nput 19,19,19,19 -\nput 17,17,13,15 -\nput 15,15,12,15 -\nremove 17,17,13,15\nput 21,17,17,18 -\nremove 15,15,15,15\nstat\n")
    ≡ Prints (codes "client 1\n@1 new\n@2 new\n@3 new\n@4 new\n@5 new\n@6 new\n@7 new\n@8 new\n@9 new\n@10 new\n@11 new\n@12 new\n@13 new\n@14 new\n@15 new\n@16 new\n@17 new\n@18 new\n@19 new\n@20 new\n@21 new\n@22 gone -\n@23 new\n@24 gone -\n@24 stat records 20 cells 1050 buckets 20 free 1\nfront 24\n")
unfolding computing
told-parts-of-the-refined-directory = refl

told-thousand-cells-per-part : prints (record { k = 4; capacity = 2; pages = 64; slots = 64; boundaries = 1000; cells = 1000000 }) (codes "put 0,1,1,1 -\nput 0,2,2,2 -\nput 0,3,3,3 -\nput 0,4,4,4 -\nput 0,5,5,5 -\nput 0,6,6,6 -\nput 0,7,7,7 -\nput 0,8,8,8 -\nput 0,9,9,9 -\nput 0,10,10,10 -\nput 0,11,11,11 -\nput 0,12,12,12 -\nput 0,13,13,13 -\nput 0,14,14,14 -\nput 0,1,20,1 -\nput 0,1,20,20 -\nput 0,1,1,20 -\nput 0,1,1,21 -\nput 10,1,1,1 -\nput 20,1,1,1 -\nput 30,1,1,1 -\nput 40,1,1,1 -\nput 50,1,1,1 -\nput 60,1,1,1 -\nput 70,1,1,1 -\nput 80,1,1,1 -\nput 90,1,1,1 -\ncheckpoint\nremove 80,1,1,1\nremove 90,1,1,1\nstat\nremove 60,1,1,1\nstat\n")
    ≡ Prints (codes "client 1\n@1 new\n@2 new\n@3 new\n@4 new\n@5 new\n@6 new\n@7 new\n@8 new\n@9 new\n@10 new\n@11 new\n@12 new\n@13 new\n@14 new\n@15 new\n@16 new\n@17 new\n@18 new\n@19 new\n@20 new\n@21 new\n@22 new\n@23 new\n@24 new\n@25 new\n@26 new\n@27 new\n@27 rooted\n@28 gone -\n@29 gone -\n@29 stat records 25 cells 1125 buckets 22 free 37\n@30 gone -\n@30 stat records 24 cells 1125 buckets 21 free 35\nfront 30\n")
unfolding computing
told-thousand-cells-per-part = refl

told-seven-tenths-of-ten : prints (record { k = 1; capacity = 10; pages = 64; slots = 64; boundaries = 1000; cells = 1000000 }) (codes "put 1 -\nput 2 -\nput 3 -\nput 4 -\nput 5 -\nput 6 -\nput 7 -\nput 8 -\nput 9 -\nput 10 -\nput 11 -\nremove 1\nremove 2\nremove 3\nstat\nremove 4\nstat\nput 12 -\nput 13 -\nput 14 -\nput 15 -\nstat\n")
    ≡ Prints (codes "client 1\n@1 new\n@2 new\n@3 new\n@4 new\n@5 new\n@6 new\n@7 new\n@8 new\n@9 new\n@10 new\n@11 new\n@12 gone -\n@13 gone -\n@14 gone -\n@14 stat records 8 cells 2 buckets 2 free 59\n@15 gone -\n@15 stat records 7 cells 2 buckets 1 free 60\n@16 new\n@17 new\n@18 new\n@19 new\n@19 stat records 11 cells 2 buckets 2 free 59\nfront 19\n")
unfolding computing
told-seven-tenths-of-ten = refl

told-seven-tenths-rounded-down : prints (record { k = 1; capacity = 4; pages = 64; slots = 64; boundaries = 1000; cells = 1000000 }) (codes "put 1 -\nput 2 -\nput 3 -\nput 4 -\nput 5 -\nremove 1\nremove 5\nstat\nremove 3\nstat\n")
    ≡ Prints (codes "client 1\n@1 new\n@2 new\n@3 new\n@4 new\n@5 new\n@6 gone -\n@7 gone -\n@7 stat records 3 cells 2 buckets 2 free 59\n@8 gone -\n@8 stat records 2 cells 2 buckets 1 free 60\nfront 8\n")
unfolding computing
told-seven-tenths-rounded-down = refl

told-cells-after-refinement : prints (record { k = 2; capacity = 2; pages = 64; slots = 8; boundaries = 1000; cells = 5 }) (codes "put 3,7 01\nput 5,1 02\nput 9,9 03\nput 6,4 04\nput 7,6 05\nstat\n")
    ≡ Prints (codes "client 1\n@1 new\n@2 new\n@3 new\n@4 new\nnocut cells 4 boundaries 2\n@4 stat records 4 cells 4 buckets 3 free 58\nfront 4\n")
unfolding computing
told-cells-after-refinement = refl

told-next-attribute-within-cells : prints (record { k = 2; capacity = 2; pages = 64; slots = 8; boundaries = 1000; cells = 5 }) (codes "put 1,1 -\nput 1,2 -\nput 1,3 -\nput 1,4 -\nput 2,5 -\nput 2,6 -\nstat\n")
    ≡ Prints (codes "client 1\n@1 new\n@2 new\n@3 new\n@4 new\n@5 new\n@6 new\n@6 stat records 6 cells 5 buckets 5 free 56\nfront 6\n")
unfolding computing
told-next-attribute-within-cells = refl

told-least-difference : prints (record { k = 3; capacity = 3; pages = 64; slots = 3; boundaries = 1000; cells = 1000000 }) (codes "put 4,0,4 e88f\nput 3,4,1 151e\nput 3,4,0 a7\nput 0,2,2 b9\nput 2,1,2 -\nput 2,2,1 -\nput 1,3,1 7c\nput 2,4,2 f0\nput 4,4,3 1a43\nput 3,4,4 9fb5\nstat\n")
    ≡ Prints (codes "client 1\n@1 new\n@2 new\n@3 new\n@4 new\n@5 new\n@6 new\n@7 new\n@8 new\n@9 new\n@10 new\n@10 stat records 10 cells 8 buckets 5 free 57\nfront 10\n")
unfolding computing
told-least-difference = refl
