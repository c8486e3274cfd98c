-- Made by ./tables from crates/layouts/specs and crates/table/specs/Claims.antt: an arm of `code` is an entry of the list, and the last arm lies past its end.
use Prim.Native.Nat.{◌≤◌}
use native.Mathlib.Omega.{arith}
use Rattle.table.proofs.Tables.{entry, get_d_past}
use Rattle.table.specs.Packed.{packed_list}
use Rattle.table_code.proofs.packed.code.Goals as goal

pub returns-in-0 : goal.returns-in-0
returns-in-0 c = entry packed_list c.in-0.is

pub returns-in-1 : goal.returns-in-1
returns-in-1 c = entry packed_list c.in-1.is

pub returns-in-2 : goal.returns-in-2
returns-in-2 c = entry packed_list c.in-2.is

pub returns-in-3 : goal.returns-in-3
returns-in-3 c = entry packed_list c.in-3.is

pub returns-in-4 : goal.returns-in-4
returns-in-4 c = entry packed_list c.in-4.is

pub returns-in-5 : goal.returns-in-5
returns-in-5 c = entry packed_list c.in-5.is

pub returns-in-6 : goal.returns-in-6
returns-in-6 c = entry packed_list c.in-6.is

pub returns-in-7 : goal.returns-in-7
returns-in-7 c = entry packed_list c.in-7.is

pub returns-in-8 : goal.returns-in-8
returns-in-8 c = entry packed_list c.in-8.is

pub returns-in-9 : goal.returns-in-9
returns-in-9 c = entry packed_list c.in-9.is

pub returns-in-10 : goal.returns-in-10
returns-in-10 c = entry packed_list c.in-10.is

pub returns-in-11 : goal.returns-in-11
returns-in-11 c = entry packed_list c.in-11.is

pub returns-in-12 : goal.returns-in-12
returns-in-12 c = entry packed_list c.in-12.is

pub returns-in-13 : goal.returns-in-13
returns-in-13 c = entry packed_list c.in-13.is

pub returns-in-14 : goal.returns-in-14
returns-in-14 c = entry packed_list c.in-14.is

pub returns-in-15 : goal.returns-in-15
returns-in-15 c = entry packed_list c.in-15.is

pub returns-in-16 : goal.returns-in-16
returns-in-16 c = entry packed_list c.in-16.is

pub returns-in-17 : goal.returns-in-17
returns-in-17 c = entry packed_list c.in-17.is

pub returns-in-18 : goal.returns-in-18
returns-in-18 c = entry packed_list c.in-18.is

pub returns-in-19 : goal.returns-in-19
returns-in-19 c = entry packed_list c.in-19.is

pub returns-in-20 : goal.returns-in-20
returns-in-20 c = entry packed_list c.in-20.is

pub returns-in-21 : goal.returns-in-21
returns-in-21 c = entry packed_list c.in-21.is

pub returns-in-22 : goal.returns-in-22
returns-in-22 c = entry packed_list c.in-22.is

pub returns-in-23 : goal.returns-in-23
returns-in-23 c = entry packed_list c.in-23.is

pub returns-in-24 : goal.returns-in-24
returns-in-24 c = entry packed_list c.in-24.is

pub returns-in-25 : goal.returns-in-25
returns-in-25 c = entry packed_list c.in-25.is

pub returns-in-26 : goal.returns-in-26
returns-in-26 c = entry packed_list c.in-26.is

pub returns-in-27 : goal.returns-in-27
returns-in-27 c = entry packed_list c.in-27.is

pub returns-in-28 : goal.returns-in-28
returns-in-28 c = entry packed_list c.in-28.is

pub returns-in-29 : goal.returns-in-29
returns-in-29 c = entry packed_list c.in-29.is

pub returns-in-30 : goal.returns-in-30
returns-in-30 c = entry packed_list c.in-30.is

pub returns-in-31 : goal.returns-in-31
returns-in-31 c = entry packed_list c.in-31.is

pub returns-in-32 : goal.returns-in-32
returns-in-32 c = entry packed_list c.in-32.is

pub returns-in-33 : goal.returns-in-33
returns-in-33 c = entry packed_list c.in-33.is

pub returns-in-34 : goal.returns-in-34
returns-in-34 c = entry packed_list c.in-34.is

pub returns-in-35 : goal.returns-in-35
returns-in-35 c = entry packed_list c.in-35.is

pub returns-in-36 : goal.returns-in-36
returns-in-36 c = entry packed_list c.in-36.is

pub returns-in-37 : goal.returns-in-37
returns-in-37 c = entry packed_list c.in-37.is

pub returns-in-38 : goal.returns-in-38
returns-in-38 c = entry packed_list c.in-38.is

pub returns-in-39 : goal.returns-in-39
returns-in-39 c = entry packed_list c.in-39.is

pub returns-in-40 : goal.returns-in-40
returns-in-40 c = entry packed_list c.in-40.is

pub returns-in-41 : goal.returns-in-41
returns-in-41 c = entry packed_list c.in-41.is

pub returns-in-42 : goal.returns-in-42
returns-in-42 c = entry packed_list c.in-42.is

pub returns-in-43 : goal.returns-in-43
returns-in-43 c = entry packed_list c.in-43.is

pub returns-in-44 : goal.returns-in-44
returns-in-44 c = entry packed_list c.in-44.is

pub returns-in-45 : goal.returns-in-45
returns-in-45 c = entry packed_list c.in-45.is

pub returns-in-46 : goal.returns-in-46
returns-in-46 c = entry packed_list c.in-46.is

pub returns-in-47 : goal.returns-in-47
returns-in-47 c = entry packed_list c.in-47.is

pub returns-in-48 : goal.returns-in-48
returns-in-48 c = entry packed_list c.in-48.is

pub returns-in-49 : goal.returns-in-49
returns-in-49 c = entry packed_list c.in-49.is

pub returns-in-50 : goal.returns-in-50
returns-in-50 c = entry packed_list c.in-50.is

pub returns-in-51 : goal.returns-in-51
returns-in-51 c = entry packed_list c.in-51.is

pub returns-in-52 : goal.returns-in-52
returns-in-52 c = entry packed_list c.in-52.is

pub returns-in-53 : goal.returns-in-53
returns-in-53 c = entry packed_list c.in-53.is

pub returns-in-54 : goal.returns-in-54
returns-in-54 c = entry packed_list c.in-54.is

pub returns-in-55 : goal.returns-in-55
returns-in-55 c = entry packed_list c.in-55.is

pub returns-in-56 : goal.returns-in-56
returns-in-56 c = entry packed_list c.in-56.is

pub returns-in-57 : goal.returns-in-57
returns-in-57 c = entry packed_list c.in-57.is

pub returns-in-58 : goal.returns-in-58
returns-in-58 c = entry packed_list c.in-58.is

pub returns-in-59 : goal.returns-in-59
returns-in-59 c = entry packed_list c.in-59.is

pub returns-in-60 : goal.returns-in-60
returns-in-60 c = entry packed_list c.in-60.is

pub returns-in-61 : goal.returns-in-61
returns-in-61 c = entry packed_list c.in-61.is

pub returns-in-62 : goal.returns-in-62
returns-in-62 c = entry packed_list c.in-62.is

pub returns-in-63 : goal.returns-in-63
returns-in-63 c = entry packed_list c.in-63.is

pub returns-in-64 : goal.returns-in-64
returns-in-64 c = entry packed_list c.in-64.is

pub returns-in-65 : goal.returns-in-65
returns-in-65 c = entry packed_list c.in-65.is

pub returns-in-66 : goal.returns-in-66
returns-in-66 c = entry packed_list c.in-66.is

pub returns-in-67 : goal.returns-in-67
returns-in-67 c = entry packed_list c.in-67.is

pub returns-in-68 : goal.returns-in-68
returns-in-68 c = entry packed_list c.in-68.is

pub returns-in-69 : goal.returns-in-69
returns-in-69 c = entry packed_list c.in-69.is

pub returns-in-70 : goal.returns-in-70
returns-in-70 c = entry packed_list c.in-70.is

pub returns-in-71 : goal.returns-in-71
returns-in-71 c = entry packed_list c.in-71.is

pub returns-in-72 : goal.returns-in-72
returns-in-72 c = entry packed_list c.in-72.is

pub returns-in-73 : goal.returns-in-73
returns-in-73 c = entry packed_list c.in-73.is

pub returns-in-74 : goal.returns-in-74
returns-in-74 c = entry packed_list c.in-74.is

pub returns-in-75 : goal.returns-in-75
returns-in-75 c = entry packed_list c.in-75.is

pub returns-in-76 : goal.returns-in-76
returns-in-76 c = entry packed_list c.in-76.is

pub returns-in-77 : goal.returns-in-77
returns-in-77 c = entry packed_list c.in-77.is

pub returns-in-78 : goal.returns-in-78
returns-in-78 c = entry packed_list c.in-78.is

pub returns-in-79 : goal.returns-in-79
returns-in-79 c = entry packed_list c.in-79.is

pub returns-in-80 : goal.returns-in-80
returns-in-80 c = entry packed_list c.in-80.is

pub returns-in-81 : goal.returns-in-81
returns-in-81 c = entry packed_list c.in-81.is

pub returns-in-82 : goal.returns-in-82
returns-in-82 c = entry packed_list c.in-82.is

pub returns-in-83 : goal.returns-in-83
returns-in-83 c = entry packed_list c.in-83.is

pub returns-in-84 : goal.returns-in-84
returns-in-84 c = entry packed_list c.in-84.is

pub returns-in-85 : goal.returns-in-85
returns-in-85 c = entry packed_list c.in-85.is

pub returns-in-86 : goal.returns-in-86
returns-in-86 c = entry packed_list c.in-86.is

pub returns-in-87 : goal.returns-in-87
returns-in-87 c = entry packed_list c.in-87.is

pub returns-in-88 : goal.returns-in-88
returns-in-88 c = entry packed_list c.in-88.is

pub returns-in-89 : goal.returns-in-89
returns-in-89 c = entry packed_list c.in-89.is

pub returns-in-90 : goal.returns-in-90
returns-in-90 c = entry packed_list c.in-90.is

pub returns-in-91 : goal.returns-in-91
returns-in-91 c = entry packed_list c.in-91.is

pub returns-in-92 : goal.returns-in-92
returns-in-92 c = entry packed_list c.in-92.is

pub returns-in-93 : goal.returns-in-93
returns-in-93 c = entry packed_list c.in-93.is

pub returns-in-94 : goal.returns-in-94
returns-in-94 c = entry packed_list c.in-94.is

pub returns-in-95 : goal.returns-in-95
returns-in-95 c = entry packed_list c.in-95.is

pub returns-in-96 : goal.returns-in-96
returns-in-96 c = entry packed_list c.in-96.is

pub returns-in-97 : goal.returns-in-97
returns-in-97 c = entry packed_list c.in-97.is

pub returns-in-98 : goal.returns-in-98
returns-in-98 c = entry packed_list c.in-98.is

pub returns-in-99 : goal.returns-in-99
returns-in-99 c = entry packed_list c.in-99.is

pub returns-in-100 : goal.returns-in-100
returns-in-100 c = entry packed_list c.in-100.is

pub returns-in-101 : goal.returns-in-101
returns-in-101 c = entry packed_list c.in-101.is

pub returns-in-102 : goal.returns-in-102
returns-in-102 c = entry packed_list c.in-102.is

pub returns-in-103 : goal.returns-in-103
returns-in-103 c = entry packed_list c.in-103.is

pub returns-in-104 : goal.returns-in-104
returns-in-104 c = entry packed_list c.in-104.is

pub returns-in-105 : goal.returns-in-105
returns-in-105 c = entry packed_list c.in-105.is

pub returns-in-106 : goal.returns-in-106
returns-in-106 c = entry packed_list c.in-106.is

pub returns-in-107 : goal.returns-in-107
returns-in-107 c = entry packed_list c.in-107.is

pub returns-in-108 : goal.returns-in-108
returns-in-108 c = entry packed_list c.in-108.is

pub returns-in-109 : goal.returns-in-109
returns-in-109 c = entry packed_list c.in-109.is

pub returns-in-110 : goal.returns-in-110
returns-in-110 c = entry packed_list c.in-110.is

pub returns-in-111 : goal.returns-in-111
returns-in-111 c = entry packed_list c.in-111.is

pub returns-in-112 : goal.returns-in-112
returns-in-112 c = entry packed_list c.in-112.is

pub returns-in-113 : goal.returns-in-113
returns-in-113 c = entry packed_list c.in-113.is

pub returns-in-114 : goal.returns-in-114
returns-in-114 c = entry packed_list c.in-114.is

pub returns-in-115 : goal.returns-in-115
returns-in-115 c = entry packed_list c.in-115.is

pub returns-in-116 : goal.returns-in-116
returns-in-116 c = entry packed_list c.in-116.is

pub returns-in-117 : goal.returns-in-117
returns-in-117 c = entry packed_list c.in-117.is

pub returns-in-118 : goal.returns-in-118
returns-in-118 c = entry packed_list c.in-118.is

pub returns-in-119 : goal.returns-in-119
returns-in-119 c = entry packed_list c.in-119.is

pub returns-in-120 : goal.returns-in-120
returns-in-120 c = entry packed_list c.in-120.is

pub returns-in-121 : goal.returns-in-121
returns-in-121 c = entry packed_list c.in-121.is

pub returns-in-122 : goal.returns-in-122
returns-in-122 c = entry packed_list c.in-122.is

pub returns-in-123 : goal.returns-in-123
returns-in-123 c = entry packed_list c.in-123.is

pub returns-in-124 : goal.returns-in-124
returns-in-124 c = entry packed_list c.in-124.is

pub returns-in-125 : goal.returns-in-125
returns-in-125 c = entry packed_list c.in-125.is

pub returns-in-126 : goal.returns-in-126
returns-in-126 c = entry packed_list c.in-126.is

pub returns-in-127 : goal.returns-in-127
returns-in-127 c = entry packed_list c.in-127.is

pub returns-in-128 : goal.returns-in-128
returns-in-128 c = entry packed_list c.in-128.is

pub returns-in-129 : goal.returns-in-129
returns-in-129 c = entry packed_list c.in-129.is

pub returns-in-130 : goal.returns-in-130
returns-in-130 c = entry packed_list c.in-130.is

pub returns-in-131 : goal.returns-in-131
returns-in-131 c = entry packed_list c.in-131.is

pub returns-in-132 : goal.returns-in-132
returns-in-132 c = entry packed_list c.in-132.is

pub returns-in-133 : goal.returns-in-133
returns-in-133 c = entry packed_list c.in-133.is

pub returns-in-134 : goal.returns-in-134
returns-in-134 c = entry packed_list c.in-134.is

pub returns-in-135 : goal.returns-in-135
returns-in-135 c = entry packed_list c.in-135.is

pub returns-in-136 : goal.returns-in-136
returns-in-136 c = entry packed_list c.in-136.is

pub returns-in-137 : goal.returns-in-137
returns-in-137 c = entry packed_list c.in-137.is

pub returns-in-138 : goal.returns-in-138
returns-in-138 c = entry packed_list c.in-138.is

pub returns-in-139 : goal.returns-in-139
returns-in-139 c = entry packed_list c.in-139.is

pub returns-in-140 : goal.returns-in-140
returns-in-140 c = entry packed_list c.in-140.is

pub returns-in-141 : goal.returns-in-141
returns-in-141 c = entry packed_list c.in-141.is

pub returns-in-142 : goal.returns-in-142
returns-in-142 c = entry packed_list c.in-142.is

pub returns-in-143 : goal.returns-in-143
returns-in-143 c = entry packed_list c.in-143.is

pub returns-in-144 : goal.returns-in-144
returns-in-144 c = entry packed_list c.in-144.is

pub returns-in-145 : goal.returns-in-145
returns-in-145 c = entry packed_list c.in-145.is

pub returns-in-146 : goal.returns-in-146
returns-in-146 c = entry packed_list c.in-146.is

pub returns-in-147 : goal.returns-in-147
returns-in-147 c = entry packed_list c.in-147.is

pub returns-in-148 : goal.returns-in-148
returns-in-148 c = entry packed_list c.in-148.is

pub returns-in-149 : goal.returns-in-149
returns-in-149 c = entry packed_list c.in-149.is

pub returns-in-150 : goal.returns-in-150
returns-in-150 c = entry packed_list c.in-150.is

pub returns-in-151 : goal.returns-in-151
returns-in-151 c = entry packed_list c.in-151.is

pub returns-in-152 : goal.returns-in-152
returns-in-152 c = entry packed_list c.in-152.is

pub returns-in-153 : goal.returns-in-153
returns-in-153 c = entry packed_list c.in-153.is

pub returns-in-154 : goal.returns-in-154
returns-in-154 c = entry packed_list c.in-154.is

pub returns-in-155 : goal.returns-in-155
returns-in-155 c = entry packed_list c.in-155.is

pub returns-in-156 : goal.returns-in-156
returns-in-156 c = entry packed_list c.in-156.is

pub returns-in-157 : goal.returns-in-157
returns-in-157 c = entry packed_list c.in-157.is

pub returns-in-158 : goal.returns-in-158
returns-in-158 c = entry packed_list c.in-158.is

pub returns-in-159 : goal.returns-in-159
returns-in-159 c = entry packed_list c.in-159.is

pub returns-in-160 : goal.returns-in-160
returns-in-160 c = entry packed_list c.in-160.is

pub returns-in-161 : goal.returns-in-161
returns-in-161 c = entry packed_list c.in-161.is

pub returns-in-162 : goal.returns-in-162
returns-in-162 c = entry packed_list c.in-162.is

pub returns-in-163 : goal.returns-in-163
returns-in-163 c = entry packed_list c.in-163.is

pub returns-in-164 : goal.returns-in-164
returns-in-164 c = entry packed_list c.in-164.is

pub returns-in-165 : goal.returns-in-165
returns-in-165 c = entry packed_list c.in-165.is

pub returns-in-166 : goal.returns-in-166
returns-in-166 c = entry packed_list c.in-166.is

pub returns-in-167 : goal.returns-in-167
returns-in-167 c = entry packed_list c.in-167.is

pub returns-in-168 : goal.returns-in-168
returns-in-168 c = entry packed_list c.in-168.is

pub returns-in-169 : goal.returns-in-169
returns-in-169 c = entry packed_list c.in-169.is

pub returns-in-170 : goal.returns-in-170
returns-in-170 c = entry packed_list c.in-170.is

pub returns-in-171 : goal.returns-in-171
returns-in-171 c = entry packed_list c.in-171.is

pub returns-in-172 : goal.returns-in-172
returns-in-172 c = entry packed_list c.in-172.is

pub returns-in-173 : goal.returns-in-173
returns-in-173 c = entry packed_list c.in-173.is

pub returns-in-174 : goal.returns-in-174
returns-in-174 c = entry packed_list c.in-174.is

pub returns-in-175 : goal.returns-in-175
returns-in-175 c = entry packed_list c.in-175.is

pub returns-in-176 : goal.returns-in-176
returns-in-176 c = entry packed_list c.in-176.is

pub returns-in-177 : goal.returns-in-177
returns-in-177 c = entry packed_list c.in-177.is

pub returns-in-178 : goal.returns-in-178
returns-in-178 c = entry packed_list c.in-178.is

pub returns-in-179 : goal.returns-in-179
returns-in-179 c = entry packed_list c.in-179.is

pub returns-in-180 : goal.returns-in-180
returns-in-180 c = entry packed_list c.in-180.is

pub returns-in-181 : goal.returns-in-181
returns-in-181 c = entry packed_list c.in-181.is

pub returns-in-182 : goal.returns-in-182
returns-in-182 c = entry packed_list c.in-182.is

pub returns-in-183 : goal.returns-in-183
returns-in-183 c = entry packed_list c.in-183.is

pub returns-in-184 : goal.returns-in-184
returns-in-184 c = entry packed_list c.in-184.is

pub returns-in-185 : goal.returns-in-185
returns-in-185 c = entry packed_list c.in-185.is

pub returns-in-186 : goal.returns-in-186
returns-in-186 c = entry packed_list c.in-186.is

pub returns-in-187 : goal.returns-in-187
returns-in-187 c = entry packed_list c.in-187.is

pub returns-in-188 : goal.returns-in-188
returns-in-188 c = entry packed_list c.in-188.is

pub returns-in-189 : goal.returns-in-189
returns-in-189 c = entry packed_list c.in-189.is

pub returns-in-190 : goal.returns-in-190
returns-in-190 c = entry packed_list c.in-190.is

pub returns-in-191 : goal.returns-in-191
returns-in-191 c = entry packed_list c.in-191.is

pub returns-in-192 : goal.returns-in-192
returns-in-192 c = entry packed_list c.in-192.is

pub returns-in-193 : goal.returns-in-193
returns-in-193 c = entry packed_list c.in-193.is

pub returns-in-194 : goal.returns-in-194
returns-in-194 c = entry packed_list c.in-194.is

pub returns-in-195 : goal.returns-in-195
returns-in-195 c = entry packed_list c.in-195.is

pub returns-in-196 : goal.returns-in-196
returns-in-196 c = entry packed_list c.in-196.is

pub returns-in-197 : goal.returns-in-197
returns-in-197 c = entry packed_list c.in-197.is

pub returns-in-198 : goal.returns-in-198
returns-in-198 c = entry packed_list c.in-198.is

pub returns-in-199 : goal.returns-in-199
returns-in-199 c = entry packed_list c.in-199.is

pub returns-in-200 : goal.returns-in-200
returns-in-200 c = entry packed_list c.in-200.is

pub returns-in-201 : goal.returns-in-201
returns-in-201 c = entry packed_list c.in-201.is

pub returns-in-202 : goal.returns-in-202
returns-in-202 c = entry packed_list c.in-202.is

pub returns-in-203 : goal.returns-in-203
returns-in-203 c = entry packed_list c.in-203.is

pub returns-in-204 : goal.returns-in-204
returns-in-204 c = entry packed_list c.in-204.is

pub returns-in-205 : goal.returns-in-205
returns-in-205 c = entry packed_list c.in-205.is

pub returns-in-206 : goal.returns-in-206
returns-in-206 c = entry packed_list c.in-206.is

pub returns-in-207 : goal.returns-in-207
returns-in-207 c = entry packed_list c.in-207.is

pub returns-in-208 : goal.returns-in-208
returns-in-208 c = entry packed_list c.in-208.is

pub returns-in-209 : goal.returns-in-209
returns-in-209 c = entry packed_list c.in-209.is

pub returns-in-210 : goal.returns-in-210
returns-in-210 c = entry packed_list c.in-210.is

pub returns-in-211 : goal.returns-in-211
returns-in-211 c = entry packed_list c.in-211.is

pub returns-in-212 : goal.returns-in-212
returns-in-212 c = entry packed_list c.in-212.is

pub returns-in-213 : goal.returns-in-213
returns-in-213 c = entry packed_list c.in-213.is

pub returns-in-214 : goal.returns-in-214
returns-in-214 c = entry packed_list c.in-214.is

pub returns-in-215 : goal.returns-in-215
returns-in-215 c = entry packed_list c.in-215.is

pub returns-in-216 : goal.returns-in-216
returns-in-216 c = entry packed_list c.in-216.is

pub returns-in-217 : goal.returns-in-217
returns-in-217 c = entry packed_list c.in-217.is

pub returns-in-218 : goal.returns-in-218
returns-in-218 c = entry packed_list c.in-218.is

pub returns-in-219 : goal.returns-in-219
returns-in-219 c = entry packed_list c.in-219.is

pub returns-in-220 : goal.returns-in-220
returns-in-220 c = entry packed_list c.in-220.is

pub returns-in-221 : goal.returns-in-221
returns-in-221 c = entry packed_list c.in-221.is

pub returns-in-222 : goal.returns-in-222
returns-in-222 c = entry packed_list c.in-222.is

pub returns-in-223 : goal.returns-in-223
returns-in-223 c = entry packed_list c.in-223.is

pub returns-in-224 : goal.returns-in-224
returns-in-224 c = entry packed_list c.in-224.is

pub returns-in-225 : goal.returns-in-225
returns-in-225 c = entry packed_list c.in-225.is

pub returns-in-226 : goal.returns-in-226
returns-in-226 c = entry packed_list c.in-226.is

pub returns-in-227 : goal.returns-in-227
returns-in-227 c = entry packed_list c.in-227.is

pub returns-in-228 : goal.returns-in-228
returns-in-228 c = entry packed_list c.in-228.is

pub returns-in-229 : goal.returns-in-229
returns-in-229 c = entry packed_list c.in-229.is

pub returns-in-230 : goal.returns-in-230
returns-in-230 c = entry packed_list c.in-230.is

pub returns-in-231 : goal.returns-in-231
returns-in-231 c = entry packed_list c.in-231.is

pub returns-in-232 : goal.returns-in-232
returns-in-232 c = entry packed_list c.in-232.is

pub returns-in-233 : goal.returns-in-233
returns-in-233 c = entry packed_list c.in-233.is

pub returns-in-234 : goal.returns-in-234
returns-in-234 c = entry packed_list c.in-234.is

pub returns-in-235 : goal.returns-in-235
returns-in-235 c = entry packed_list c.in-235.is

pub returns-in-236 : goal.returns-in-236
returns-in-236 c = entry packed_list c.in-236.is

pub returns-in-237 : goal.returns-in-237
returns-in-237 c = entry packed_list c.in-237.is

pub returns-in-238 : goal.returns-in-238
returns-in-238 c = entry packed_list c.in-238.is

pub returns-in-239 : goal.returns-in-239
returns-in-239 c = entry packed_list c.in-239.is

pub returns-in-240 : goal.returns-in-240
returns-in-240 c = entry packed_list c.in-240.is

pub returns-in-241 : goal.returns-in-241
returns-in-241 c = entry packed_list c.in-241.is

pub returns-in-242 : goal.returns-in-242
returns-in-242 c = entry packed_list c.in-242.is

pub returns-in-243 : goal.returns-in-243
returns-in-243 c = entry packed_list c.in-243.is

pub returns-in-244 : goal.returns-in-244
returns-in-244 c = entry packed_list c.in-244.is

pub returns-in-245 : goal.returns-in-245
returns-in-245 c = entry packed_list c.in-245.is

pub returns-in-246 : goal.returns-in-246
returns-in-246 c = entry packed_list c.in-246.is

pub returns-in-247 : goal.returns-in-247
returns-in-247 c = entry packed_list c.in-247.is

pub returns-in-248 : goal.returns-in-248
returns-in-248 c = entry packed_list c.in-248.is

pub returns-in-249 : goal.returns-in-249
returns-in-249 c = entry packed_list c.in-249.is

pub returns-in-250 : goal.returns-in-250
returns-in-250 c = entry packed_list c.in-250.is

pub returns-in-251 : goal.returns-in-251
returns-in-251 c = entry packed_list c.in-251.is

pub returns-in-252 : goal.returns-in-252
returns-in-252 c = entry packed_list c.in-252.is

pub returns-in-253 : goal.returns-in-253
returns-in-253 c = entry packed_list c.in-253.is

pub returns-in-254 : goal.returns-in-254
returns-in-254 c = entry packed_list c.in-254.is

pub returns-in-255 : goal.returns-in-255
returns-in-255 c = entry packed_list c.in-255.is

pub returns-in-256 : goal.returns-in-256
returns-in-256 c = entry packed_list c.in-256.is

pub returns-in-257 : goal.returns-in-257
returns-in-257 c = entry packed_list c.in-257.is

pub returns-in-258 : goal.returns-in-258
returns-in-258 c = entry packed_list c.in-258.is

pub returns-in-259 : goal.returns-in-259
returns-in-259 c = entry packed_list c.in-259.is

pub returns-in-260 : goal.returns-in-260
returns-in-260 c = entry packed_list c.in-260.is

pub returns-in-261 : goal.returns-in-261
returns-in-261 c = entry packed_list c.in-261.is

pub returns-in-262 : goal.returns-in-262
returns-in-262 c = entry packed_list c.in-262.is

pub returns-in-263 : goal.returns-in-263
returns-in-263 c = entry packed_list c.in-263.is

pub returns-in-264 : goal.returns-in-264
returns-in-264 c = entry packed_list c.in-264.is

pub returns-in-265 : goal.returns-in-265
returns-in-265 c = entry packed_list c.in-265.is

pub returns-in-266 : goal.returns-in-266
returns-in-266 c = entry packed_list c.in-266.is

pub returns-in-267 : goal.returns-in-267
returns-in-267 c = entry packed_list c.in-267.is

pub returns-in-268 : goal.returns-in-268
returns-in-268 c = entry packed_list c.in-268.is

pub returns-in-269 : goal.returns-in-269
returns-in-269 c = entry packed_list c.in-269.is

pub returns-in-270 : goal.returns-in-270
returns-in-270 c = entry packed_list c.in-270.is

pub returns-in-271 : goal.returns-in-271
returns-in-271 c = entry packed_list c.in-271.is

pub returns-in-272 : goal.returns-in-272
returns-in-272 c = entry packed_list c.in-272.is

pub returns-in-273 : goal.returns-in-273
returns-in-273 c = entry packed_list c.in-273.is

pub returns-in-274 : goal.returns-in-274
returns-in-274 c = entry packed_list c.in-274.is

pub returns-in-275 : goal.returns-in-275
returns-in-275 c = entry packed_list c.in-275.is

pub returns-in-276 : goal.returns-in-276
returns-in-276 c = entry packed_list c.in-276.is

pub returns-in-277 : goal.returns-in-277
returns-in-277 c = entry packed_list c.in-277.is

pub returns-in-278 : goal.returns-in-278
returns-in-278 c = entry packed_list c.in-278.is

pub returns-in-279 : goal.returns-in-279
returns-in-279 c = entry packed_list c.in-279.is

pub returns-in-280 : goal.returns-in-280
returns-in-280 c = entry packed_list c.in-280.is

pub returns-in-281 : goal.returns-in-281
returns-in-281 c = entry packed_list c.in-281.is

pub returns-in-282 : goal.returns-in-282
returns-in-282 c = entry packed_list c.in-282.is

pub returns-in-283 : goal.returns-in-283
returns-in-283 c = entry packed_list c.in-283.is

pub returns-in-284 : goal.returns-in-284
returns-in-284 c = entry packed_list c.in-284.is

pub returns-in-285 : goal.returns-in-285
returns-in-285 c = entry packed_list c.in-285.is

pub returns-in-286 : goal.returns-in-286
returns-in-286 c = entry packed_list c.in-286.is

pub returns-in-287 : goal.returns-in-287
returns-in-287 c = entry packed_list c.in-287.is

pub returns-in-288 : goal.returns-in-288
returns-in-288 c = entry packed_list c.in-288.is

pub returns-in-289 : goal.returns-in-289
returns-in-289 c = entry packed_list c.in-289.is

pub returns-in-290 : goal.returns-in-290
returns-in-290 c = entry packed_list c.in-290.is

pub returns-in-291 : goal.returns-in-291
returns-in-291 c = entry packed_list c.in-291.is

pub returns-in-292 : goal.returns-in-292
returns-in-292 c = entry packed_list c.in-292.is

pub returns-in-293 : goal.returns-in-293
returns-in-293 c = entry packed_list c.in-293.is

pub returns-in-294 : goal.returns-in-294
returns-in-294 c = entry packed_list c.in-294.is

pub returns-in-295 : goal.returns-in-295
returns-in-295 c = entry packed_list c.in-295.is

pub returns-in-296 : goal.returns-in-296
returns-in-296 c = entry packed_list c.in-296.is

pub returns-in-297 : goal.returns-in-297
returns-in-297 c = entry packed_list c.in-297.is

pub returns-in-298 : goal.returns-in-298
returns-in-298 c = entry packed_list c.in-298.is

pub returns-in-299 : goal.returns-in-299
returns-in-299 c = entry packed_list c.in-299.is

pub returns-in-300 : goal.returns-in-300
returns-in-300 c = entry packed_list c.in-300.is

pub returns-in-301 : goal.returns-in-301
returns-in-301 c = entry packed_list c.in-301.is

pub returns-in-302 : goal.returns-in-302
returns-in-302 c = entry packed_list c.in-302.is

pub returns-in-303 : goal.returns-in-303
returns-in-303 c = entry packed_list c.in-303.is

pub returns-in-304 : goal.returns-in-304
returns-in-304 c = entry packed_list c.in-304.is

pub returns-in-305 : goal.returns-in-305
returns-in-305 c = entry packed_list c.in-305.is

pub returns-in-306 : goal.returns-in-306
returns-in-306 c = entry packed_list c.in-306.is

pub returns-in-307 : goal.returns-in-307
returns-in-307 c = entry packed_list c.in-307.is

pub returns-in-308 : goal.returns-in-308
returns-in-308 c = entry packed_list c.in-308.is

pub returns-in-309 : goal.returns-in-309
returns-in-309 c = entry packed_list c.in-309.is

pub returns-in-310 : goal.returns-in-310
returns-in-310 c = entry packed_list c.in-310.is

pub returns-in-311 : goal.returns-in-311
returns-in-311 c = entry packed_list c.in-311.is

pub returns-in-312 : goal.returns-in-312
returns-in-312 c = entry packed_list c.in-312.is

pub returns-in-313 : goal.returns-in-313
returns-in-313 c = entry packed_list c.in-313.is

pub returns-in-314 : goal.returns-in-314
returns-in-314 c = entry packed_list c.in-314.is

pub returns-in-315 : goal.returns-in-315
returns-in-315 c = entry packed_list c.in-315.is

pub returns-in-316 : goal.returns-in-316
returns-in-316 c = entry packed_list c.in-316.is

pub returns-in-317 : goal.returns-in-317
returns-in-317 c = entry packed_list c.in-317.is

pub returns-in_default : goal.returns-in_default
returns-in_default c = let i = c.args.i in let past : 318 ≤ i = omega arith in get_d_past packed_list i 0 past
